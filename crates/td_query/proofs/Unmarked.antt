-- If no mark of a source and of its packages is `affected`, the source isn't.
use Rattle.std.proofs.Common.{◌≡◌, ℕ, ◌&&◌, Bool, true, false, List, [], ◌∷◌, Option, Some}
use Rattle.std.proofs.Common.{None, get_or, length, map, option_map, slice_get, refl, sym, ap, ◌∙◌}
use Rattle.std.proofs.Common.{zero, suc, inl, inr}
use Rattle.std.specs.Prelude.{is_some}
use Rattle.std.specs.List.{list_any, range_with_len}
use Rattle.std.specs.Option.{option_map_or}
use Rattle.std.proofs.lemmas.Bool.{cases_Bool}
use Rattle.td_indices.specs.Archive.{Contents, is_of, is_of_on, numbers_of}
use Rattle.td_indices.specs.Kept.{KeptBinary}
use Rattle.td_indices.specs.Seen.{seen_source, shown_source}
use Rattle.td_indices.specs.Sources.{KeptSource}
use Rattle.td_indices.specs.Stanzas.{package_fields, source_fields}
use Rattle.td_indices.specs.declared.sourced.Source.{Source}
use Rattle.td_indices.specs.Rows.{has_row}
use Rattle.td_indices.proofs.Places.{any-places}
use Rattle.td_relation.specs.Meeting.{is_on}
use Rattle.td_query.specs.declared.mark.Mark.{Mark}
use Rattle.td_query.specs.declared.marks.Marks.{Marks}
use Rattle.td_query.specs.Marks.{AreMarks, mark_on, no_mark}
use Rattle.td_query.specs.Statuses.{is_affected_at, row_satisfies, row_status}
use Rattle.td_query.specs.Tracking.{Tracking}
use Rattle.td_query.specs.Truth.{truth}
use Rattle.td_query.proofs.AffectedSources.{found}

-- ---- 1. lists

-- what passes a narrower test passes the wider one
any-fewer : {A : Type 0} (f g : A → Bool) (xs : List A) → ((x : A) → g x ≡ false → f x ≡ false)
    → list_any g xs ≡ false → list_any f xs ≡ false
any-fewer f g [] e h = refl
any-fewer f g (x ∷ xs) e h =
    elim (cases_Bool (g x)) [
      | inl is ↦ absurd (let no : true ≡ false = rw is at h in cc)
      | inr other ↦
          let rest : list_any g xs ≡ false = rw other at h in
          rw (e x other) (any-fewer f g xs e rest)
    ]

any-never : {A : Type 0} (f : A → Bool) (xs : List A) → ((x : A) → f x ≡ false)
    → list_any f xs ≡ false
any-never f [] e = refl
any-never f (x ∷ xs) e = rw (e x) (any-never f xs e)

-- ---- 2. marks

-- the mark with a number is the mark of the item with the number
pub mark_found : {A : Type 0} (f : A → Mark) (xs : List A) (k : ℕ) (marks : List Mark)
    → marks ≡ map f xs → get_or marks k no_mark ≡ option_map_or f (slice_get xs k) no_mark
mark_found f [] k marks e = rw e refl
mark_found f (x ∷ xs) zero marks e = rw e refl
mark_found f (x ∷ xs) (suc k) marks e = rw e (mark_found f xs k (map f xs) refl)

-- ---- 3. rows

module _ (a : Contents) (t : Tracking) (m : Marks) (of : AreMarks a t m) where
  -- whether the query `affected` holds on the stanza of the package with a number
  abbrev pub is_marked : ℕ → Bool
  is_marked n = (get_or m.packages.items n no_mark).affected

  marked_is : (k : ℕ) (b : KeptBinary) → slice_get a.binaries k ≡ Some b
      → is_marked k ≡ truth t.patterns (package_fields a b) t.affected
  marked_is k b at =
      let mark = λ (x : KeptBinary). mark_on t (package_fields a x) in
      ap (λ x. x.affected) (mark_found mark a.binaries k m.packages.items of.packages)
      ∙ ap (λ o. (option_map_or mark o no_mark).affected) at

  unsatisfied : (s : KeptSource) (place : ℕ)
      → truth t.patterns (source_fields a s) t.affected ≡ false
      → list_any is_marked (numbers_of a s.head.name) ≡ false
      → row_satisfies a t.patterns t.affected s place ≡ false
  unsatisfied s place own none =
      rw own (any-fewer (λ b. is_of_on s.head.name place b
      && truth t.patterns (package_fields a b) t.affected)
      (λ b. is_of s.head.name b && truth t.patterns (package_fields a b) t.affected) a.binaries
      (λ b. narrower (is_of s.head.name b) (is_on place b.head.home)
      (truth t.patterns (package_fields a b) t.affected))
      (sym (any-places (is_of s.head.name) is_marked
      (λ b. truth t.patterns (package_fields a b) t.affected) a.binaries a.binaries 0 marked_is refl)
      ∙ none))
    where
      narrower : (of on it : Bool) → (of && it) ≡ false → ((of && on) && it) ≡ false
      narrower false on it h = refl
      narrower true false it h = refl
      narrower true true it h = h

  no_status : (s : KeptSource) (place : ℕ)
      → row_satisfies a t.patterns t.affected s place ≡ false
      → is_some (row_status a t s place) ≡ false
  no_status s place h =
      elim (cases_Bool (has_row a.table s.head.archs place)) [
        | inl there ↦ rw (there, h) refl
        | inr away ↦ rw away refl
      ]

  at_source : (o : Option KeptSource) (own : Mark)
      → own ≡ option_map_or (λ s. mark_on t (source_fields a s)) o no_mark
      → own.affected ≡ false
      → ((s : KeptSource) → o ≡ Some s → list_any is_marked (numbers_of a s.head.name) ≡ false)
      → option_map_or (λ s. list_any (λ place. is_some (row_status a t s place))
      (range_with_len 0 (length a.table))) o false ≡ false
  at_source None own is isnt none = refl
  at_source (Some s) own is isnt none =
      let it : truth t.patterns (source_fields a s) t.affected ≡ false =
      sym (ap (λ x. x.affected) is) ∙ isnt in
      any-never (λ place. is_some (row_status a t s place)) (range_with_len 0 (length a.table))
      (λ place. no_status s place (unsatisfied s place it (none s refl)))

  -- ---- 4. by the source's marks

  pub unaffected : (source : ℕ) (x : Source)
      → Some (seen_source x) ≡ option_map shown_source (slice_get a.sources source)
      → (get_or m.sources.items source no_mark).affected ≡ false
      → list_any is_marked (numbers_of a x.name.now) ≡ false → is_affected_at a t source ≡ false
  unaffected source x at isnt none =
      let f = found (slice_get a.sources source) x at in
      at_source (slice_get a.sources source) (get_or m.sources.items source no_mark)
      (mark_found (λ s. mark_on t (source_fields a s)) a.sources source m.sources.items of.sources)
      isnt (λ s is.
      let same : f.0 ≡ s = cc in
      rw (sym (ap (λ y. y.head.name) same) ∙ f.2) none)
