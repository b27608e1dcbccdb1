-- Lists of rows, one of which gets a row more.
use Rattle.std.proofs.Common.{◌≡◌, ◌<◌, ◌+◌, ◌-◌, ◌==◌, ℕ, List, [], ◌∷◌, ◌++◌, length, sym}
use Rattle.std.proofs.Common.{ap, ◌∙◌, inl, inr, arith, if◌then◌else◌, get_or, set, map}
use Rattle.std.proofs.Common.{get_or-set_other, Option, Some, None, slice_get, subst}
use Rattle.std.specs.Borrow.{Bor}
use Rattle.std.specs.Global.{Vec}
use Rattle.std.specs.List.{count_by}
use Rattle.std.specs.Prelude.{IfSome}
use Rattle.std.proofs.lemmas.Bool.Decides.{eqb_tells}
use Rattle.std.proofs.lemmas.Grind.{get_or-set_at}
use Rattle.std.proofs.lemmas.List.{map-set, get_or-map, length-map, append-nil}
use Rattle.td_waves.specs.declared.level.Level.TheVariants.{At, Cyclic}
use Rattle.td_report.specs.declared.grouping.Grouped.{Grouped}
use Rattle.td_report.specs.declared.item.Item.{Item}
use Rattle.td_report.specs.inner.Blocks.{AreGroupedCounts, AreInstalledCounts}
use Rattle.td_report.specs.inner.Grouped.{AreByLevel, list_at}
use Rattle.td_report.specs.inner.ItemLines.{is_installed, seen}
use Rattle.td_report.proofs.SeenRows.{installed-seen}

pub list_at-push : (vs : List (Vec Item)) (b : ℕ) (x : Item) (old new : Vec Item) → b < length vs
    → old ≡ get_or vs b old → new.items ≡ old.items ++ x ∷ []
    → (g : ℕ) → list_at (set vs b new) g ≡ list_at vs g ++ (if b == g then x ∷ [] else [])
list_at-push vs b x old new lt is e g =
    let items = λ (v : Vec Item). v.items in
    let moved : list_at (set vs b new) g ≡ get_or (set (map items vs) b new.items) g [] =
    ap (λ l. get_or l g []) (map-set items vs b new) in
    elim (eqb_tells b g) [
      | inl p ↦
          let at : get_or (set (map items vs) b new.items) g [] ≡ new.items =
          get_or-set_at (map items vs) b g new.items [] (sym p.1) (rw length-map lt) in
          let was : list_at vs g ≡ old.items = ap (λ k. list_at vs k) (sym p.1)
          ∙ get_or-map items vs b old [] lt ∙ ap items (sym is) in
          rw (p.0, was) (moved ∙ at ∙ e)
      | inr p ↦
          let other : get_or (set (map items vs) b new.items) g [] ≡ list_at vs g =
          get_or-set_other (map items vs) b g new.items [] (λ q. p.1 (sym q)) in
          rw (p.0, append-nil) (moved ∙ other)
    ]

-- the list of level n + 1 has number n
pub same_number : (level n : ℕ) → 0 < level → ((level - 1) == n) ≡ (level == (n + 1))
same_number level n h = elim (eqb_tells (level - 1) n) [
  | inl p ↦ elim (eqb_tells level (n + 1)) [
    | inl q ↦ p.0 ∙ sym q.0
    | inr q ↦ absurd (q.1 (omega (arith, p.1, h)))
  ]
  | inr p ↦ elim (eqb_tells level (n + 1)) [
    | inl q ↦ absurd (p.1 (omega (arith, q.1, h)))
    | inr q ↦ p.0 ∙ sym q.0
  ]
]

-- what was read of the list with a number
pub read-list : (lists : List (Vec Item)) (n : ℕ) (v : Vec Item) (now : List Item)
    → n < length lists → v ≡ get_or lists n v → now ≡ v.items → now ≡ list_at lists n
read-list lists n v now lt is e = e ∙ ap (λ (v : Vec Item). v.items) is
    ∙ sym (get_or-map (λ (v : Vec Item). v.items) lists n v [] lt)

-- counts of the rows at levels are those of the lists that have them
pub counts-grouped : (depth : ℕ) (items : List Item) (grouped : Grouped)
    (counts : Option (Bor (List ℕ))) → AreByLevel depth items grouped
    → IfSome counts (λ cs. AreInstalledCounts depth (map seen items) cs.now)
    → IfSome counts (λ cs. AreGroupedCounts grouped cs.now)
counts-grouped depth items grouped None by are = tt
counts-grouped depth items grouped (Some cs) by are = record {
  of_level = λ n lt.
      let within : n < depth = subst (λ d. n < d) by.len lt in
      are.of_level n within ∙ ap Some (installed-seen items (At (n + 1))
      ∙ ap (count_by is_installed) (sym (by.levels n within)));
  of_cyclic = ap (λ n. slice_get cs.now n) by.len ∙ are.of_cyclic
      ∙ ap Some (installed-seen items Cyclic ∙ ap (count_by is_installed) (sym by.cyclic));
}
