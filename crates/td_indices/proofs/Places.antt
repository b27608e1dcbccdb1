-- The numbers of items that pass a test.
use Rattle.std.proofs.Common.{◌≡◌, ℕ, ◌+◌, ◌<◌, ◌≤◌, arith, length, Bool, false}
use Rattle.std.proofs.Common.{◌&&◌, List, [], ◌∷◌, ◌++◌, Some, take, drop, filter, slice_get}
use Rattle.std.proofs.Common.{if◌then◌else◌, refl, sym, ap, ◌∙◌, inl, inr, add-one}
use Rattle.std.specs.List.{AllByRecursion}
use Rattle.std.specs.Option.{option_map_or}
use Rattle.std.specs.Str.{bytes_eq}
use Rattle.std.proofs.lemmas.Bool.{cases_Bool}
use Rattle.std.proofs.lemmas.List.{length-take-le}
use Rattle.td_rows.proofs.Lists.{take-next}
pub use Rattle.td_supply.proofs.Places.{any-filter, any-places, front_of}
use Rattle.td_supply.proofs.Places.{places-push}
use Rattle.td_indices.specs.Archive.{places_from, is_of}
use Rattle.td_indices.specs.Kept.{KeptBinary}

-- of the numbers of items that pass one test, those whose items pass another
pub filter-places : {A : Type 0} (test there : A → Bool) (bs xs : List A) (n : ℕ) → drop n bs ≡ xs
    → filter (λ (k : ℕ). option_map_or there (slice_get bs k) false) (places_from test n xs)
    ≡ places_from (λ x. test x && there x) n xs
filter-places test there bs [] n h = refl
filter-places test there bs (x ∷ xs) n h =
    let f = front_of bs n x xs h in
    let later = filter-places test there bs xs (n + 1) (rw add-one f.1) in
    elim (cases_Bool (test x)) [
      | inl passes ↦ elim (cases_Bool (there x)) [
        | inl is ↦ rw (passes, f.0, is) (ap (λ (l : List ℕ). n ∷ l) later)
        | inr other ↦ rw (passes, f.0, other) later
      ]
      | inr fails ↦ rw fails later
    ]

-- the numbers so far, with one package more
pub grouped : (q source : List ℕ) (old new : List ℕ) (n : ℕ) (bs : List KeptBinary) (b : KeptBinary)
    → n ≤ length bs → slice_get bs n ≡ Some b → b.head.source ≡ source
    → new ≡ (if bytes_eq q source then old ++ n ∷ [] else old)
    → old ≡ places_from (is_of q) 0 (take n bs) → new ≡ places_from (is_of q) 0 (take (n + 1) bs)
grouped q source old new n bs b within at is added h =
    let long : 0 + length (take n bs) ≡ n = omega (arith, length-take-le n bs within) in
    added
    ∙ sym (rw (take-next bs n b at, places-push (is_of q) 0 (take n bs) b, long, is, ← h) refl)

-- they are numbers of items
pub places-within : {A : Type 0} (test : A → Bool) (m n : ℕ) (xs : List A) → n + length xs ≤ m
    → AllByRecursion (λ (k : ℕ). k < m) (places_from test n xs)
places-within test m n [] h = tt
places-within test m n (x ∷ xs) h =
    let here : n < m = omega arith in
    let below : (n + 1) + length xs ≤ m = omega arith in
    let later = places-within test m (n + 1) xs below in
    elim (cases_Bool (test x)) [
      | inl passes ↦ rw passes (here, later)
      | inr fails ↦ rw fails later
    ]
