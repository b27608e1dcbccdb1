-- The greatest rebuild number, among a group's numbers and among all packages.
use Rattle.std.proofs.Common.{◌≡◌, ℕ, ◌+◌, Bool, true, ◌&&◌, List, [], ◌∷◌, Option, Some, None}
use Rattle.std.proofs.Common.{drop, filter, fold, map, refl, sym, ap, ◌∙◌, inl, inr, add-one}
use Rattle.std.proofs.Common.{if◌then◌else◌}
use Rattle.std.proofs.lemmas.Bool.{cases_Bool}
use Rattle.td_version.specs.Version.{Parts}
use Rattle.td_relation.specs.Table.{place_of}
use Rattle.td_rows.specs.declared.key.Key.{Key}
use Rattle.td_indices.specs.Archive.{Contents, source_named, places_from, is_of}
use Rattle.td_indices.specs.Kept.{KeptBinary}
use Rattle.td_indices.specs.Opening.{rebuild_number, is_current, greater, current_number}
use Rattle.td_indices.specs.Opening.{with_number, greatest_at, opening_of, opening_on, opening_at}
use Rattle.td_indices.specs.Opening.{opening_row}
use Rattle.td_indices.specs.Rows.{has_row}
use Rattle.td_indices.specs.Sources.{KeptSource}
use Rattle.td_indices.proofs.Places.{front_of}

-- whether a package is the source's and was built there from that version
abbrev pub counted : List ℕ → Parts → ℕ → KeptBinary → Bool
counted q parts place b = is_of q b && is_current parts place b

abbrev pub number_in : KeptBinary → ℕ
number_in b = rebuild_number b.head.version

-- one package more
with_package : (q : List ℕ) (parts : Parts) (place : ℕ) (x : KeptBinary) (xs : List KeptBinary)
    (best : Option ℕ) → is_of q x ≡ true
    → fold greater (with_number best (current_number parts place (Some x)))
    (map number_in (filter (counted q parts place) xs))
    ≡ fold greater best (map number_in (filter (counted q parts place) (x ∷ xs)))
with_package q parts place x xs best own =
    elim (cases_Bool (is_current parts place x)) [
      | inl is ↦ rw (own, is) refl
      | inr other ↦ rw (own, other) refl
    ]

-- the greatest among the packages of a source with these numbers is that among all packages that
-- are its
pub greatest-group : (q : List ℕ) (parts : Parts) (place : ℕ) (bs xs : List KeptBinary) (n : ℕ)
    (best : Option ℕ) → drop n bs ≡ xs
    → greatest_at bs parts place best (places_from (is_of q) n xs)
    ≡ fold greater best (map number_in (filter (counted q parts place) xs))
greatest-group q parts place bs [] n best h = refl
greatest-group q parts place bs (x ∷ xs) n best h =
    let f = front_of bs n x xs h in
    let next : drop (n + 1) bs ≡ xs = rw add-one f.1 in
    let P : List ℕ = places_from (is_of q) (n + 1) xs in
    elim (cases_Bool (is_of q x)) [
      | inl own ↦
          let taken : greatest_at bs parts place best (n ∷ P)
          ≡ greatest_at bs parts place (with_number best (current_number parts place (Some x))) P =
          ap (λ (o : Option KeptBinary).
          greatest_at bs parts place (with_number best (current_number parts place o)) P) f.0 in
          let listed : places_from (is_of q) n (x ∷ xs) ≡ n ∷ P = rw own refl in
          ap (greatest_at bs parts place best) listed
          ∙ taken
          ∙ greatest-group q parts place bs xs (n + 1)
          (with_number best (current_number parts place (Some x))) next
          ∙ with_package q parts place x xs best own
      | inr foreign ↦ rw foreign (greatest-group q parts place bs xs (n + 1) best next)
    ]

-- the row of a key without a source
pub no_row : (a : Contents) (k : Key) → source_named a k.source ≡ None → None ≡ opening_row a k
no_row a k h = sym (ap (λ (o : Option KeptSource). opening_at a o k.arch) h)

-- the row of a key with a source, on an architecture of the table
pub row_found : (a : Contents) (k : Key) (s : KeptSource) (numbers : List ℕ) (place : ℕ)
    → source_named a k.source ≡ Some s → place_of a.table k.arch ≡ Some place
    → numbers ≡ places_from (is_of s.head.name) 0 a.binaries
    → (if has_row a.table s.head.archs place
    then Some (opening_of (greatest_at a.binaries s.head.parts place None numbers)) else None)
    ≡ opening_row a k
row_found a k s numbers place source at is =
    ap (λ (best : Option ℕ).
    if has_row a.table s.head.archs place then Some (opening_of best) else None)
    (ap (greatest_at a.binaries s.head.parts place None) is
    ∙ greatest-group s.head.name s.head.parts place a.binaries a.binaries 0 None refl)
    ∙ sym (ap (opening_on a s) at)
    ∙ sym (ap (λ (o : Option KeptSource). opening_at a o k.arch) source)
