-- Numbers of rows that pass a test, over plain values.
use Rattle.std.proofs.Common.{arith, ◌≡◌, ℕ, suc, ◌+◌, Bool, true, false, List, [], ◌∷◌, ◌++◌}
use Rattle.std.proofs.Common.{filter, if◌then◌else◌, ap, refl, ◌∙◌}
use Rattle.std.specs.List.{range_with_len}
use Rattle.std.proofs.lemmas.List.Elements.{filter-append}
use Rattle.td_text.proofs.Anywhere.{range-more}

filter_one : (p : ℕ → Bool) (xs : List ℕ) (n : ℕ)
    → filter p (xs ++ n ∷ []) ≡ filter p xs ++ (if p n then n ∷ [] else [])
filter_one p xs n =
    filter-append p xs (n ∷ [])
    ∙ elim (p n) as (λ b. filter p xs ++ (if b then n ∷ [] else [])
    ≡ filter p xs ++ (if b then n ∷ [] else [])) [ true ↦ refl | false ↦ refl ]

-- one number more
pub filter_more : (p : ℕ → Bool) (n : ℕ)
    → filter p (range_with_len 0 (n + 1))
    ≡ filter p (range_with_len 0 n) ++ (if p n then n ∷ [] else [])
filter_more p n =
    let more : n + 1 ≡ suc n = omega arith in
    let here : 0 + n ≡ n = omega arith in
    ap (λ m. filter p (range_with_len 0 m)) more
    ∙ ap (filter p) (range-more 0 n ∙ ap (λ m. range_with_len 0 n ++ m ∷ []) here)
    ∙ filter_one p (range_with_len 0 n) n
