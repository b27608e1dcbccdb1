-- Whether some item of a list passes a test, and whether some number below another does.
use Rattle.std.proofs.Common.{◌≡◌, ℕ, zero, suc, ◌+◌, ◌<◌, ◌||◌, Bool, true, false, List, [], ◌∷◌}
use Rattle.std.proofs.Common.{◌++◌, length, get_or, refl, sym, ap, ◌∙◌, inl, inr, arith}
use Rattle.std.specs.List.{list_any, range_with_len}
use Rattle.std.proofs.lemmas.Bool.{cases_Bool}
use Rattle.std.proofs.lemmas.List.FromFn.{get_or-range_with_len, length-range_with_len}
use Rattle.std.proofs.Math.Bool.{or-false, or_assoc}

-- ---- of a list

pub any-same : {A : Type 0} (f g : A → Bool) (xs : List A) → ((x : A) → f x ≡ g x)
    → list_any f xs ≡ list_any g xs
any-same f g [] e = refl
any-same f g (x ∷ xs) e = ap (λ b. b || list_any f xs) (e x)
    ∙ ap (λ b. g x || b) (any-same f g xs e)

-- one item more
pub any-push : {A : Type 0} (f : A → Bool) (xs : List A) (x : A)
    → list_any f (xs ++ x ∷ []) ≡ (list_any f xs || f x)
any-push f [] x = or-false (f x)
any-push f (y ∷ ys) x = ap (λ b. f y || b) (any-push f ys x)
    ∙ sym (or_assoc (f y) (list_any f ys) (f x))

any-at : (f : ℕ → Bool) (xs : List ℕ) (i : ℕ) → i < length xs → f (get_or xs i 0) ≡ true
    → list_any f xs ≡ true
any-at f [] i lt h = absurd (omega arith)
any-at f (x ∷ xs) zero lt h = rw h refl
any-at f (x ∷ xs) (suc i) lt h =
    elim (cases_Bool (f x)) [
      | inl is ↦ rw is refl
      | inr other ↦ rw other (any-at f xs i (omega arith) h)
    ]

-- ---- of the numbers below another

pub range-more : (a n : ℕ) → range_with_len a (suc n) ≡ range_with_len a n ++ (a + n) ∷ []
range-more a zero = ap (λ k. k ∷ []) (omega arith)
range-more a (suc n) = ap (λ l. a ∷ l)
    (range-more (a + 1) n ∙ ap (λ k. range_with_len (a + 1) n ++ k ∷ []) (omega arith))

-- one number more
pub any-range : (f : ℕ → Bool) (n : ℕ)
    → list_any f (range_with_len 0 (n + 1)) ≡ (list_any f (range_with_len 0 n) || f n)
any-range f n =
    let one : n + 1 ≡ suc n = omega arith in
    let it : 0 + n ≡ n = omega arith in
    ap (λ k. list_any f (range_with_len 0 k)) one
    ∙ ap (list_any f) (range-more 0 n ∙ ap (λ k. range_with_len 0 n ++ k ∷ []) it)
    ∙ any-push f (range_with_len 0 n) n

pub none-more : (f : ℕ → Bool) (n : ℕ) → list_any f (range_with_len 0 n) ≡ false → f n ≡ false
    → list_any f (range_with_len 0 (n + 1)) ≡ false
none-more f n h g = any-range f n ∙ ap (λ b. b || f n) h ∙ g

pub any-below : (f : ℕ → Bool) (n place : ℕ) → place < n → f place ≡ true
    → list_any f (range_with_len 0 n) ≡ true
any-below f n place lt h =
    let it : 0 + place ≡ place = omega arith in
    any-at f (range_with_len 0 n) place (omega (arith, lt, length-range_with_len 0 n))
    (ap f (get_or-range_with_len 0 n place 0 lt ∙ it) ∙ h)
