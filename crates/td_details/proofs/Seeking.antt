-- Whether one of some items passes a test, item by item.
use Rattle.std.proofs.Common.{◌≡◌, ◌<◌, ◌≤◌, ◌+◌, ◌||◌, ◌∷◌, [], ℕ, Bool, true, false, List}
use Rattle.std.proofs.Common.{Option, Some, None, ap, drop, get_or, length, map, refl, sym, ◌∙◌}
use Rattle.std.proofs.Common.{slice_get, take, take_all}
use Rattle.std.specs.List.{list_any}
use Rattle.std.specs.Option.{option_map_or}
use Rattle.std.proofs.Math.Bool.{or-false}
use Rattle.std.proofs.lemmas.List.{take-append-drop}
use Rattle.std.proofs.lemmas.List.Folds.{list_any-append, list_any_at, list_any_more}
use Rattle.td_rows.proofs.Lists.{slice_get-none, take-next}
use Rattle.td_text.proofs.Chain.{list_any-map}

-- ---- 1. items by their views

-- the item at a place passes
pub seen_here : {A B : Type 0} (test : B → Bool) (view : A → B) (xs : List A) (i : ℕ) (d : A)
    → i < length xs → test (view (get_or xs i d)) ≡ true → true ≡ list_any test (map view xs)
seen_here test view xs i d within is =
    sym (list_any-map test view xs ∙ list_any_at (λ x. test (view x)) xs i d within is)

-- no item passed so far, and the next doesn't
pub seen_not_yet : {A B : Type 0} (test : B → Bool) (view : A → B) (xs : List A) (i : ℕ) (d : A)
    → i < length xs → list_any test (map view (take i xs)) ≡ false
    → test (view (get_or xs i d)) ≡ false → list_any test (map view (take (i + 1) xs)) ≡ false
seen_not_yet test view xs i d within none is =
    let before : list_any (λ x. test (view x)) (take i xs) ≡ false =
    sym (list_any-map test view (take i xs)) ∙ none in
    list_any-map test view (take (i + 1) xs)
    ∙ list_any_more (λ x. test (view x)) xs i d within ∙ rw (before, is) refl

-- no item passes
pub seen_nowhere : {A B : Type 0} (test : B → Bool) (view : A → B) (xs : List A) (i : ℕ)
    → length xs ≤ i → list_any test (map view (take i xs)) ≡ false
    → false ≡ list_any test (map view xs)
seen_nowhere test view xs i past none =
    sym none ∙ ap (λ l. list_any test (map view l)) (take_all i xs past)

-- ---- 2. items by their numbers

more_at : {A : Type 0} (p : A → Bool) (xs : List A) (n : ℕ) (o : Option A) → slice_get xs n ≡ o
    → n < length xs
    → list_any p (take (n + 1) xs) ≡ (list_any p (take n xs) || option_map_or p o false)
more_at p xs n None is within = absurd (slice_get-none xs n is within)
more_at p xs n (Some x) is within =
    ap (list_any p) (take-next xs n x is) ∙ list_any-append p (take n xs) (x ∷ [])
    ∙ ap (λ b. list_any p (take n xs) || b) (or-false (p x))

-- no item passed so far, and the next doesn't
pub found_not_yet : {A : Type 0} (p : A → Bool) (xs : List A) (n : ℕ) → n < length xs
    → list_any p (take n xs) ≡ false → option_map_or p (slice_get xs n) false ≡ false
    → list_any p (take (n + 1) xs) ≡ false
found_not_yet p xs n within none is =
    more_at p xs n (slice_get xs n) refl within ∙ rw (none, is) refl

-- no item passed so far, and the next does
pub found_here : {A : Type 0} (p : A → Bool) (xs : List A) (n : ℕ) → n < length xs
    → list_any p (take n xs) ≡ false → option_map_or p (slice_get xs n) false ≡ true
    → true ≡ list_any p xs
found_here p xs n within none is =
    let front : list_any p (take (n + 1) xs) ≡ true =
    more_at p xs n (slice_get xs n) refl within ∙ rw (none, is) refl in
    sym (ap (list_any p) (sym (take-append-drop (n + 1) xs))
    ∙ list_any-append p (take (n + 1) xs) (drop (n + 1) xs) ∙ rw front refl)

-- no item passes
pub found_nowhere : {A : Type 0} (p : A → Bool) (xs : List A) (n : ℕ) → length xs ≤ n
    → list_any p (take n xs) ≡ false → false ≡ list_any p xs
found_nowhere p xs n past none = sym none ∙ ap (list_any p) (take_all n xs past)
