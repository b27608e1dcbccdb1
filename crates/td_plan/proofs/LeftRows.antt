-- What the reason of a row says that is bad or partial, and isn't due.
use Rattle.std.proofs.Common.{◌≡◌, ◌⊎◌, ℕ, ◌&&◌, not, Bool, true, false, Option}
use Rattle.std.proofs.Common.{None}
use Rattle.std.proofs.Common.{Some, refl, sym, ap, ◌∙◌, inl, inr, if◌then◌else◌}
use Rattle.std.specs.List.{list_any}
use Rattle.std.proofs.lemmas.Bool.{cases_Bool, and_parts, false≢true}
use Rattle.std.proofs.lemmas.Bool.{leb-false, leb-true, not-true, or_cases}
use Rattle.td_text.specs.Limits.{max_rebuild}
use Rattle.td_text.proofs.SameTexts.{same_text}
use Rattle.td_version.specs.Order.{same_version}
use Rattle.td_relation.specs.Meeting.{is_on}
use Rattle.td_rows.specs.States.{is_installed}
use Rattle.td_indices.specs.Archive.{is_of, is_of_on}
use Rattle.td_indices.specs.Kept.{KeptBinary}
use Rattle.td_indices.specs.PackageKeys.{same_home}
use Rattle.td_indices.specs.Rows.{has_row}
use Rattle.td_indices.specs.Sources.{KeptSource}
use Rattle.td_indices.specs.Stanzas.{package_fields, source_fields}
use Rattle.td_indices.proofs.CountingLaws.{same_home-refl}
use Rattle.td_indices.proofs.Keeping.{same_home-is}
use Rattle.td_query.specs.Statuses.{graded, row_satisfies, row_status, status_where}
use Rattle.td_query.specs.Truth.{truth}
use Rattle.td_plan.specs.Due.{asks_rebuild, has_number, is_due, is_wanted, number_of}
use Rattle.td_plan.specs.Premises.{Premises, has_row_that, is_bad}
use Rattle.td_plan.specs.Reasons.{all, is_exactly, is_left, is_of_all, number, old}
use Rattle.td_plan.specs.Reasons.{some_bad, source, state}
use Rattle.td_plan.specs.RowLaws.{CouldBeRebuilt, Explains, IsOfAll, IsOldThere, IsPackageOf}
use Rattle.td_plan.specs.RowLaws.{IsPresentThere, IsThere, LeftRowsAreExplained, SomeBad}
use Rattle.td_plan.proofs.DueRows.{asks-is, bad-some, due_rows_are_exact, installed-there}
use Rattle.td_plan.proofs.DueRows.{some-bad as bad-found, there-installed}
use Rattle.td_plan.proofs.Existing.{any-some}

-- ---- 1. a row that is bad or partial has a bad stanza

graded-bad : (good bad : Bool) → asks_rebuild (Some (graded good bad)) ≡ true → bad ≡ true
graded-bad true true h = refl
graded-bad true false h = h
graded-bad false true h = refl
graded-bad false false h = h

where-bad : (affected good bad : Bool) → asks_rebuild (status_where affected good bad) ≡ true
    → bad ≡ true
where-bad false good bad h = absurd (false≢true h)
where-bad true good bad h = graded-bad good bad h

if-bad : (there affected good bad : Bool)
    → asks_rebuild (if there then status_where affected good bad else None) ≡ true → bad ≡ true
if-bad false affected good bad h = absurd (false≢true h)
if-bad true affected good bad h = where-bad affected good bad h

module _ (p : Premises) (s : KeptSource) (place : ℕ) where
  satisfied : is_wanted p s place ≡ true
      → row_satisfies p.archive p.tracker.patterns p.tracker.bad s place ≡ true
  satisfied wanted = if-bad (has_row p.archive.table s.head.archs place)
      (row_satisfies p.archive p.tracker.patterns p.tracker.affected s place)
      (row_satisfies p.archive p.tracker.patterns p.tracker.good s place)
      (row_satisfies p.archive p.tracker.patterns p.tracker.bad s place) wanted

  home-there : (home : Option ℕ) → is_on place home ≡ true → (home ≡ None) ⊎ (home ≡ Some place)
  home-there None on = inl refl
  home-there (Some q) on = inr (same_home-is (Some q) (Some place) on)

  -- ---- 2. packages

  old-some : some_bad (is_exactly place) p s ≡ true → SomeBad (IsThere place) p s
  old-some h =
      let found = bad-some p s (is_exactly place) h in
      (found.0, found.1, same_home-is found.0.head.home (Some place) found.2, found.3)

  there-some : SomeBad (IsThere place) p s → some_bad (is_exactly place) p s ≡ true
  there-some (b, of, home, bad) = bad-found p s (is_exactly place) b of
      (ap (λ (h : Option ℕ). same_home h (Some place)) home ∙ same_home-refl (Some place)) bad

  all-some : some_bad is_of_all p s ≡ true → SomeBad IsOfAll p s
  all-some h =
      let found = bad-some p s is_of_all h in
      (found.0, found.1, same_home-is found.0.head.home None found.2, found.3)

  some-all : SomeBad IsOfAll p s → some_bad is_of_all p s ≡ true
  some-all (b, of, home, bad) = bad-found p s is_of_all b of
      (ap (λ (h : Option ℕ). same_home h None) home) bad

  -- some stanza of the row is bad: the source's own, or that of a package
  bad-stanza : is_wanted p s place ≡ true
      → (truth p.tracker.patterns (source_fields p.archive s) p.tracker.bad ≡ true)
      ⊎ (SomeBad (IsThere place) p s ⊎ SomeBad IsOfAll p s)
  bad-stanza wanted =
      let own = truth p.tracker.patterns (source_fields p.archive s) p.tracker.bad in
      let test : KeptBinary → Bool = λ b. is_of_on s.head.name place b
      && truth p.tracker.patterns (package_fields p.archive b) p.tracker.bad in
      elim (or_cases own (list_any test p.archive.binaries) (satisfied wanted)) [
        | inl is ↦ inl is
        | inr some ↦
            (let found = any-some test p.archive.binaries some in
            let b = found.0 in
            let both = and_parts (is_of_on s.head.name place b) (is_bad p b) found.2 in
            let on = and_parts (is_of s.head.name b) (is_on place b.head.home) both.0 in
            let of : IsPackageOf p s b = (found.1, same_text s.head.name b.head.source on.0) in
            inr (elim (home-there b.head.home on.1) [
              | inl none ↦ inr (b, of, none, both.1)
              | inr there ↦ inl (b, of, there, both.1)
            ]))
      ]

  -- ---- 3. by the reason

  module _ (left : is_left p s place ≡ true) where
    wanted : is_wanted p s place ≡ true
    wanted = (and_parts (is_wanted p s place) (not (is_due p s place)) left).0

    not-due : is_due p s place ≡ false
    not-due = not-true (is_due p s place)
        (and_parts (is_wanted p s place) (not (is_due p s place)) left).1

    -- no package of the present version is bad there
    none-present : CouldBeRebuilt p s place → ¬ SomeBad (IsPresentThere s place) p s
    none-present could (b, of, home, bad) =
        let row = could.0 in
        false≢true (sym not-due ∙ (due_rows_are_exact p s place).1 (record {
          asks = asks-is (row_status p.archive p.tracker s place) wanted;
          row = row.0;
          there = row.1;
          installed = row.2;
          left = could.1;
          of_one = b;
          of = of;
          home = home.0;
          present = home.1;
          bad = bad;
        }))

    of-old : CouldBeRebuilt p s place → SomeBad (IsThere place) p s
        → SomeBad (IsOldThere s place) p s
    of-old could (b, of, home, bad) =
        elim (cases_Bool (same_version b.head.source_parts s.head.parts)) [
          | inl same ↦ absurd (none-present could (b, of, (home, same), bad))
          | inr other ↦ (b, of, (home, other), bad)
        ]

    abbrev Says : Bool → Bool → Bool → Bool → Type 0
    Says installed numbered exactly of_all = Explains p s place
        (if not installed then state
        else (if not numbered then number
        else (if exactly then old
        else (if of_all then all else source))))

    no-more : (exactly : some_bad (is_exactly place) p s ≡ false)
        → ¬ SomeBad (IsThere place) p s
    no-more none some = false≢true (sym none ∙ there-some some)

    explained : (installed numbered exactly of_all : Bool)
        → has_row_that (λ r. is_installed r.state) p s place ≡ installed
        → has_number p s ≡ numbered → some_bad (is_exactly place) p s ≡ exactly
        → some_bad is_of_all p s ≡ of_all → Says installed numbered exactly of_all
    explained false numbered exactly of_all i n e o =
        λ row. false≢true (sym i ∙ there-installed p s place row)
    explained true false exactly of_all i n e o =
        (installed-there p s place i, leb-false (number_of p s) max_rebuild n)
    explained true true true of_all i n e o =
        let could : CouldBeRebuilt p s place =
        (installed-there p s place i, leb-true (number_of p s) max_rebuild n) in
        (could, of-old could (old-some e), none-present could)
    explained true true false true i n e o =
        let could : CouldBeRebuilt p s place =
        (installed-there p s place i, leb-true (number_of p s) max_rebuild n) in
        (could, all-some o, no-more e)
    explained true true false false i n e o =
        let could : CouldBeRebuilt p s place =
        (installed-there p s place i, leb-true (number_of p s) max_rebuild n) in
        let none : ¬ SomeBad IsOfAll p s = λ some. false≢true (sym o ∙ some-all some) in (
          could,
          no-more e,
          none,
          elim (bad-stanza wanted) [
            | inl own ↦ own
            | inr some ↦ absurd (elim some [
              | inl there ↦ no-more e there
              | inr of_all ↦ none of_all
            ])
          ],
        )

pub left_rows_are_explained : LeftRowsAreExplained
left_rows_are_explained p s place left =
    explained p s place left (has_row_that (λ r. is_installed r.state) p s place) (has_number p s)
    (some_bad (is_exactly place) p s) (some_bad is_of_all p s) refl refl refl refl
