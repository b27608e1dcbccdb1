-- Counts of the Installed rows of groups are those of levels.
use Rattle.std.proofs.Common.{◌≡◌, ◌<◌, ◌≤◌, ◌+◌, ◌-◌, ◌&&◌, ◌∷◌, [], ℕ}
use Rattle.std.proofs.Common.{List, Option, None, Some, filter, count_by, map, refl, sym, ap, subst}
use Rattle.std.proofs.Common.{◌∙◌, inl, inr, arith, if◌then◌else◌}
use Rattle.std.specs.Borrow.{Bor}
use Rattle.std.specs.Prelude.{IfSome, is_some}
use Rattle.std.specs.List.{cons_option}
use Rattle.std.specs.Option.{option_map}
use Rattle.std.proofs.lemmas.Bool.{cases_Bool}
use Rattle.std.proofs.lemmas.Bool.Decides.{eqb_tells}
use Rattle.std.proofs.lemmas.List.Sums.{sum_by-cons}
use Rattle.td_rows.specs.declared.key.Key.{Key}
use Rattle.td_rows.specs.declared.row.Row.{Row}
use Rattle.td_rows.specs.States.{is_installed as is_installed_state}
use Rattle.td_rows.specs.Table.{Table}
use Rattle.td_query.specs.declared.status.Status.{Status}
use Rattle.td_query.specs.Statuses.{status_of}
use Rattle.td_waves.specs.declared.level.Level.{Level}
use Rattle.td_waves.specs.declared.level.Level.TheVariants.{At, Cyclic}
use Rattle.td_waves.specs.Levels.{IsDepth}
use Rattle.td_report.specs.Groups.{AreCounts, is_group, is_there, level_group}
use Rattle.td_report.specs.Report.{AffectedRow, is_installed, is_level, stands_at}
use Rattle.td_report.specs.Transition.{affected_rows}
use Rattle.td_report.specs.TransitionView.{contents_of, depth_of, level_of, tracking_of}
use Rattle.td_report.specs.declared.item.Item.{Item}
use Rattle.td_report.specs.inner.Blocks.{AreInstalledCounts, installed_at}
use Rattle.td_report.specs.inner.ItemLines.{seen}
use Rattle.td_report.specs.declared.transition.Transition.{Transition}

-- one row more, if a group is counted as a level is
one-more : (level : Level) (group depth : ℕ) (l : Option Level)
    → is_group (level_group depth l) group ≡ is_level level l
    → (s : Option Status) (key : Key) (row : Row) (rest : List AffectedRow) (n : ℕ)
    → n ≡ installed_at rest level
    → (if is_group (if is_some s then level_group depth l else None) group
    && is_installed_state row.state then 1 else 0) + n
    ≡ installed_at (cons_option (option_map (λ status. record
    { key = key; row = row; status = status; level = l }) s) rest) level
one-more level group depth l same None key row rest n so = omega (arith, so)
one-more level group depth l same (Some s) key row rest n so =
    let r : AffectedRow = record { key = key; row = row; status = s; level = l } in
    elim (cases_Bool (is_level level l)) [
      | inl is ↦ rw (same, is) (omega (
        arith,
        so,
        sum_by-cons (λ x. if is_installed x then 1 else 0) r (filter (stands_at level) rest),
      ))
      | inr other ↦ rw (same, other) (omega (arith, so))
    ]

-- the rows of a group that are Installed are those at a level
group-level : (x : Transition) (level : Level) (group : ℕ)
    → ((source : List ℕ) → is_group (level_group (depth_of x) (level_of x source)) group
    ≡ is_level level (level_of x source)) → (rows : Table)
    → count_by (is_there x group) rows
    ≡ installed_at (affected_rows (contents_of x) (tracking_of x) (level_of x) rows) level
group-level x level group same [] = refl
group-level x level group same (p ∷ rows) =
    sum_by-cons (λ q. if is_there x group q then 1 else 0) p rows
    ∙ one-more level group (depth_of x) (level_of x p.0.source) (same p.0.source)
    (status_of (contents_of x) (tracking_of x) p.0) p.0 p.1
    (affected_rows (contents_of x) (tracking_of x) (level_of x) rows)
    (count_by (is_there x group) rows) (group-level x level group same rows)

-- ---- which group a level has

abbrev IsWithin : ℕ → Option Level → Type 0
IsWithin depth l = (k : ℕ) → l ≡ Some (At k) → (0 < k) × (k ≤ depth)

of-level : (depth group : ℕ) (l : Option Level) → IsWithin depth l → group < depth
    → is_group (level_group depth l) group ≡ is_level (At (group + 1)) l
of-level depth group None within lt = refl
of-level depth group (Some (At k)) within lt =
    let some = (within k refl).0 in
    elim (eqb_tells (k - 1) group) [
      | inl p ↦ elim (eqb_tells k (group + 1)) [
        | inl q ↦ p.0 ∙ sym q.0
        | inr q ↦ absurd (q.1 (omega (arith, p.1, some)))
      ]
      | inr p ↦ elim (eqb_tells k (group + 1)) [
        | inl q ↦ absurd (p.1 (omega (arith, q.1, some)))
        | inr q ↦ p.0 ∙ sym q.0
      ]
    ]
of-level depth group (Some Cyclic) within lt = elim (eqb_tells depth group) [
  | inl p ↦ absurd (omega (arith, p.1, lt))
  | inr p ↦ p.0
]

of-cyclic : (depth : ℕ) (l : Option Level) → IsWithin depth l
    → is_group (level_group depth l) depth ≡ is_level Cyclic l
of-cyclic depth None within = refl
of-cyclic depth (Some (At k)) within =
    let some = within k refl in
    elim (eqb_tells (k - 1) depth) [
      | inl p ↦ absurd (omega (arith, p.1, some.0, some.1))
      | inr p ↦ p.0
    ]
of-cyclic depth (Some Cyclic) within = elim (eqb_tells depth depth) [
  | inl p ↦ p.0
  | inr p ↦ absurd (p.1 refl)
]

-- ---- the counts

counts-levels : (x : Transition) (rows : Table) (counts : List ℕ)
    → IsDepth (level_of x) (depth_of x) → AreCounts x rows counts
    → AreInstalledCounts (depth_of x)
    (affected_rows (contents_of x) (tracking_of x) (level_of x) rows) counts
counts-levels x rows counts deep are = record {
  of_level = λ n lt. are.each n (omega (arith, lt)) ∙ ap Some
      (group-level x (At (n + 1)) n (λ source. of-level (depth_of x) n (level_of x source)
      (λ k is. deep.within source k is) lt) rows);
  of_cyclic = are.each (depth_of x) (omega arith) ∙ ap Some
      (group-level x Cyclic (depth_of x) (λ source. of-cyclic (depth_of x) (level_of x source)
      (λ k is. deep.within source k is)) rows);
}

-- counts of groups, if any are given, are those of the levels of the rows that were read
pub counts_read : (x : Transition) (rows : Table) (items now : List Item) (d : ℕ)
    (counts : Option (Bor (List ℕ))) → IsDepth (level_of x) (depth_of x)
    → map seen items ≡ affected_rows (contents_of x) (tracking_of x) (level_of x) rows
    → now ≡ items → d ≡ depth_of x → IfSome counts (λ cs. AreCounts x rows cs.now)
    → IfSome counts (λ cs. AreInstalledCounts d (map seen now) cs.now)
counts_read x rows items now d None deep are same is of_groups = tt
counts_read x rows items now d (Some cs) deep are same is of_groups =
    subst (λ d. AreInstalledCounts d (map seen now) cs.now) (sym is)
    (subst (λ l. AreInstalledCounts (depth_of x) l cs.now) (sym (ap (map seen) same ∙ are))
    (counts-levels x rows cs.now deep of_groups))
