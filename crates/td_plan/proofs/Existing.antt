-- Whether some item of a list passes a test, as 'there is one'.
use Rattle.std.proofs.Common.{◌≡◌, ℕ, zero, suc, ◌+◌, ◌<◌, ◌∷◌, [], Bool, true, false, List}
use Rattle.std.proofs.Common.{Contains, filter, refl, sym, ap, ◌∙◌, inl, inr, arith, subst}
use Rattle.std.specs.List.{list_any, range_with_len}
use Rattle.std.proofs.lemmas.Bool.{cases_Bool, false≢true}
use Rattle.td_indices.proofs.OfferLaws.{has_cases, has_first, has_more}

pub none_has : {A : Type 0} (x : A) → ¬ Contains [] x
none_has x has = let low = has.1 in omega arith

module _ {A : Type 0} (test : A → Bool) where
  pub any-some : (xs : List A) → list_any test xs ≡ true
      → (x : A) × Contains xs x × (test x ≡ true)
  any-some [] h = absurd (false≢true h)
  any-some (x ∷ xs) h =
      elim (cases_Bool (test x)) [
        | inl is ↦ (x, has_first x xs, is)
        | inr other ↦
            let rest : list_any test xs ≡ true = rw other at h in
            let found = any-some xs rest in
            (found.0, has_more x xs found.0 found.1, found.2)
      ]

  pub some-any : (xs : List A) (x : A) → Contains xs x → test x ≡ true → list_any test xs ≡ true
  some-any [] x has is = absurd (none_has x has)
  some-any (y ∷ ys) x has is =
      elim (cases_Bool (test y)) [
        | inl here ↦ rw here refl
        | inr other ↦ rw other (elim (has_cases y ys x has) [
          | inl same ↦ absurd (false≢true (sym other ∙ ap test same ∙ is))
          | inr more ↦ some-any ys x more is
        ])
      ]

  pub none-of : (xs : List A) (x : A) → list_any test xs ≡ false → Contains xs x
      → test x ≡ false
  none-of xs x none has =
      elim (cases_Bool (test x)) [
        | inl is ↦ absurd (false≢true (sym none ∙ some-any xs x has is))
        | inr other ↦ other
      ]

  -- what passes is among those that pass
  pub filter-has : (xs : List A) (x : A) → Contains xs x → test x ≡ true
      → Contains (filter test xs) x
  filter-has [] x has is = absurd (none_has x has)
  filter-has (y ∷ ys) x has is =
      elim (cases_Bool (test y)) [
        | inl here ↦ rw here (elim (has_cases y ys x has) [
          | inl same ↦ subst (λ (z : A). Contains (z ∷ filter test ys) x) (sym same)
              (has_first x (filter test ys))
          | inr more ↦ has_more y (filter test ys) x (filter-has ys x more is)
        ])
        | inr other ↦ rw other (elim (has_cases y ys x has) [
          | inl same ↦ absurd (false≢true (sym other ∙ ap test same ∙ is))
          | inr more ↦ filter-has ys x more is
        ])
      ]

  pub has-filter : (xs : List A) (x : A) → Contains (filter test xs) x
      → Contains xs x × (test x ≡ true)
  has-filter [] x has = absurd (none_has x has)
  has-filter (y ∷ ys) x has =
      elim (cases_Bool (test y)) [
        | inl here ↦
            (let had : Contains (y ∷ filter test ys) x = rw here at has in
            elim (has_cases y (filter test ys) x had) [
              | inl same ↦ (
                subst (λ (z : A). Contains (z ∷ ys) x) (sym same) (has_first x ys),
                sym (ap test same) ∙ here,
              )
              | inr more ↦
                  (let rest = has-filter ys x more in (has_more y ys x rest.0, rest.1))
            ])
        | inr other ↦
            (let had : Contains (filter test ys) x = rw other at has in
            let rest = has-filter ys x had in
            (has_more y ys x rest.0, rest.1))
      ]

  -- if no item passes, none is left
  pub none-filter : (xs : List A) → list_any test xs ≡ false → filter test xs ≡ []
  none-filter [] h = refl
  none-filter (x ∷ xs) h =
      elim (cases_Bool (test x)) [
        | inl is ↦ absurd (let bad : true ≡ false = rw is at h in cc)
        | inr other ↦
            let rest : list_any test xs ≡ false = rw other at h in
            rw other (none-filter xs rest)
      ]

range-from : (a n k : ℕ) → k < n → Contains (range_with_len a n) (a + k)
range-from a zero k lt = absurd (omega arith)
range-from a (suc n) zero lt =
    let it : a ≡ a + 0 = omega arith in
    subst (λ (k : ℕ). Contains (a ∷ range_with_len (a + 1) n) k) it
    (has_first a (range_with_len (a + 1) n))
range-from a (suc n) (suc k) lt =
    let it : a + 1 + k ≡ a + suc k = omega arith in
    subst (λ (m : ℕ). Contains (a ∷ range_with_len (a + 1) n) m) it
    (has_more a (range_with_len (a + 1) n) (a + 1 + k) (range-from (a + 1) n k (omega arith)))

-- a number below another is among the numbers below that
pub range-has : (n k : ℕ) → k < n → Contains (range_with_len 0 n) k
range-has n k lt =
    let it : 0 + k ≡ k = omega arith in
    subst (λ (m : ℕ). Contains (range_with_len 0 n) m) it (range-from 0 n k lt)
