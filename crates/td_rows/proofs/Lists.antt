-- Lists by the item with a number.
use Rattle.std.proofs.Common.{◌≡◌, ℕ, zero, suc, ◌+◌, ◌<◌, List, [], ◌∷◌, ◌++◌, Some, None, length}
use Rattle.std.proofs.Common.{take, drop, slice_get, option_map, map, ap, refl, add-one, arith}

take-suc : {A : Type 0} (xs : List A) (n : ℕ) (x : A) → slice_get xs n ≡ Some x
    → take (suc n) xs ≡ take n xs ++ x ∷ []
take-suc [] zero x at = cc
take-suc [] (suc n) x at = cc
take-suc (y ∷ xs) zero x at = let same : y ≡ x = cc in ap (λ z. z ∷ []) same
take-suc (y ∷ xs) (suc n) x at = ap (λ zs. y ∷ zs) (take-suc xs n x at)

drop-here : {A : Type 0} (xs : List A) (n : ℕ) (x : A) → slice_get xs n ≡ Some x
    → drop n xs ≡ x ∷ drop (suc n) xs
drop-here [] zero x at = cc
drop-here [] (suc n) x at = cc
drop-here (y ∷ xs) zero x at = let same : y ≡ x = cc in ap (λ z. z ∷ xs) same
drop-here (y ∷ xs) (suc n) x at = drop-here xs n x at

-- one item more
pub take-next : {A : Type 0} (xs : List A) (n : ℕ) (x : A) → slice_get xs n ≡ Some x
    → take (n + 1) xs ≡ take n xs ++ x ∷ []
take-next xs n x at = rw add-one (take-suc xs n x at)

-- what is left, from the item with a number on
pub drop-next : {A : Type 0} (xs : List A) (n : ℕ) (x : A) → slice_get xs n ≡ Some x
    → drop n xs ≡ x ∷ drop (n + 1) xs
drop-next xs n x at = rw add-one (drop-here xs n x at)

pub slice_get-map : {A B : Type 0} (f : A → B) (xs : List A) (n : ℕ)
    → slice_get (map f xs) n ≡ option_map f (slice_get xs n)
slice_get-map f [] zero = refl
slice_get-map f [] (suc n) = refl
slice_get-map f (x ∷ xs) zero = refl
slice_get-map f (x ∷ xs) (suc n) = slice_get-map f xs n

-- there is an item with each number below the length
pub slice_get-none : {A : Type 0} (xs : List A) (n : ℕ) → slice_get xs n ≡ None → n < length xs → ⊥
slice_get-none [] n none within = omega arith
slice_get-none (x ∷ xs) zero none within = absurd cc
slice_get-none (x ∷ xs) (suc n) none within = slice_get-none xs n none (omega arith)

-- a list without an item
pub empty-below : {A : Type 0} (xs : List A) → (0 < length xs → ⊥) → xs ≡ []
empty-below [] h = refl
empty-below (x ∷ xs) h = absurd (h (omega arith))
