-- A row opens as Needs-Build if and only if no package was built there.
use Rattle.std.proofs.Common.{◌≡◌, ◌&&◌, ℕ, Bool, true, false, not, List, [], ◌∷◌, Option, Some}
use Rattle.std.proofs.Common.{◌<◌, ◌≤◌, filter, fold, get_or, length, map, max, refl, sym, ap}
use Rattle.std.proofs.Common.{◌∙◌, inl, inr, slice_get, take, take_all}
use Rattle.std.specs.List.{list_any}
use Rattle.std.specs.Option.{option_map_or}
use Rattle.std.proofs.lemmas.Bool.{cases_Bool}
use Rattle.std.proofs.lemmas.List.Folds.{list_any_at}
use Rattle.td_rows.specs.States.{is_queued}
use Rattle.td_version.specs.Version.{Parts}
use Rattle.td_indices.specs.Archive.{Contents, is_of, numbers_of}
use Rattle.td_indices.specs.Kept.{KeptBinary}
use Rattle.td_indices.specs.Opening.{greater, greatest, is_current, opening_of}
use Rattle.td_indices.specs.Opening.{rebuild_number}
use Rattle.td_indices.specs.Rows.{has_row}
use Rattle.td_indices.specs.Sources.{KeptSource}
use Rattle.td_indices.proofs.Places.{any-places}
use Rattle.td_details.specs.Counts.{has_built, is_queued_there}

-- whether the row with the greatest of these numbers is Needs-Build
abbrev needs : Option ℕ → Bool
needs best = is_queued (opening_of best).state

-- a number stays
numbered : (numbers : List ℕ) (n : ℕ) → needs (fold greater (Some n) numbers) ≡ false
numbered [] n = refl
numbered (m ∷ numbers) n = numbered numbers (max n m)

-- there is a number if and only if some package passes
unnumbered : (test : KeptBinary → Bool) (bs : List KeptBinary)
    → needs (greatest (map (λ b. rebuild_number b.head.version) (filter test bs)))
    ≡ not (list_any test bs)
unnumbered test [] = refl
unnumbered test (b ∷ bs) = elim (cases_Bool (test b)) [
  | inl is ↦ rw is
      (numbered (map (λ x. rebuild_number x.head.version) (filter test bs))
      (rebuild_number b.head.version))
  | inr other ↦ rw other (unnumbered test bs)
]

-- a source's row on an architecture opens as Needs-Build if and only if it has one there, and no
-- package was built there from the source as it is now
pub queued_there : (c : Contents) (place : ℕ) (s : KeptSource)
    → is_queued_there c place s
    ≡ (has_row c.table s.head.archs place && not (has_built c s.head.name s.head.parts place))
queued_there c place s = elim (cases_Bool (has_row c.table s.head.archs place)) [
  | inl is ↦ rw is
      (unnumbered (λ b. is_of s.head.name b && is_current s.head.parts place b) c.binaries)
  | inr none ↦ rw none refl
]

-- some package of a source was built there if and only if one with one of its numbers was
pub built_by_number : (c : Contents) (name : List ℕ) (parts : Parts) (place : ℕ)
    → list_any (λ n. option_map_or (is_current parts place) (slice_get c.binaries n) false)
    (numbers_of c name)
    ≡ has_built c name parts place
built_by_number c name parts place =
    any-places (is_of name)
    (λ n. option_map_or (is_current parts place) (slice_get c.binaries n) false)
    (is_current parts place) c.binaries c.binaries 0
    (λ k b at. ap (λ (o : Option KeptBinary). option_map_or (is_current parts place) o false) at)
    refl

-- the package with one of the numbers was built there
pub built_found : (c : Contents) (name : List ℕ) (parts : Parts) (place : ℕ) (numbers : List ℕ)
    (i : ℕ) → numbers ≡ numbers_of c name → i < length numbers
    → option_map_or (is_current parts place) (slice_get c.binaries (get_or numbers i 0)) false
    ≡ true → true ≡ has_built c name parts place
built_found c name parts place numbers i are within is =
    let built : ℕ → Bool =
    λ n. option_map_or (is_current parts place) (slice_get c.binaries n) false in
    sym (list_any_at built numbers i 0 within is) ∙ ap (list_any built) are
    ∙ built_by_number c name parts place

-- none of the packages with these numbers was built there
pub built_nowhere : (c : Contents) (name : List ℕ) (parts : Parts) (place : ℕ) (numbers : List ℕ)
    (i : ℕ) → numbers ≡ numbers_of c name → length numbers ≤ i
    → list_any (λ n. option_map_or (is_current parts place) (slice_get c.binaries n) false)
    (take i (numbers_of c name)) ≡ false → false ≡ has_built c name parts place
built_nowhere c name parts place numbers i are all none =
    let built : ℕ → Bool =
    λ n. option_map_or (is_current parts place) (slice_get c.binaries n) false in
    sym none ∙ ap (λ l. list_any built (take i l)) (sym are)
    ∙ ap (list_any built) (take_all i numbers all) ∙ ap (list_any built) are
    ∙ built_by_number c name parts place
