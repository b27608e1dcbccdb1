-- How often a number stands in a list, and lists that have the same numbers as often.
use Rattle.std.proofs.Common.{arith, ◌≡◌, ◌≢◌, ℕ, zero, suc, ◌+◌, ◌<◌, ◌≤◌, ◌==◌, Bool, true, false}
use Rattle.std.proofs.Common.{List, [], ◌∷◌, ◌++◌, length, filter, cond, get_or, if◌then◌else◌}
use Rattle.std.proofs.Common.{eq-eqb, ne_eqb, ⊎_elim, refl, ap, sym, subst, ◌∙◌}
use Rattle.std.specs.List.{Contains, range_with_len, remove, swap_remove}
use Rattle.std.specs.List.Sorted.{IsPermutation}
use Rattle.std.proofs.lemmas.Bool.{cases_lt}
use Rattle.std.proofs.lemmas.Bool.Decides.{eqb_tells}
use Rattle.std.proofs.lemmas.List.Sorted.{IsPermutation-cons, IsPermutation-refl}
use Rattle.std.proofs.lemmas.List.Sorted.{IsPermutation-remove, IsPermutation-sym}
use Rattle.std.proofs.lemmas.List.Sorted.{IsPermutation-trans}
use Rattle.std.proofs.lemmas.List.Sums.{get_or-le-sum_by, sum_by-append, sum_by-cons, sum_by-remove}
use Rattle.std.proofs.lemmas.List.Sums.{sum_by-swap_remove, sum_by_push}
use Rattle.td_book.specs.inner.OutRows.{times_in}
use Rattle.td_book.proofs.Numbers.{filter_more}

-- one for the number, none for another
abbrev one_of : ℕ → ℕ → ℕ
one_of n m = cond (m == n) 1 0

one_of-same : (n : ℕ) → one_of n n ≡ 1
one_of-same n = ap (λ b. cond b 1 0) (eq-eqb n n refl)

one_of-other : (n m : ℕ) → m ≢ n → one_of n m ≡ 0
one_of-other n m apart = ap (λ b. cond b 1 0) (ne_eqb m n apart)

pub times_in-push_same : (xs : List ℕ) (n : ℕ) → times_in (xs ++ n ∷ []) n ≡ times_in xs n + 1
times_in-push_same xs n = sum_by_push (one_of n) xs n ∙ ap (λ k. times_in xs n + k) (one_of-same n)

pub times_in-push_other : (xs : List ℕ) (n m : ℕ) → m ≢ n
    → times_in (xs ++ m ∷ []) n ≡ times_in xs n
times_in-push_other xs n m apart =
    sum_by_push (one_of n) xs m ∙ ap (λ k. times_in xs n + k) (one_of-other n m apart) ∙ omega arith

times_in-cons : (x : ℕ) (xs : List ℕ) (n : ℕ) → times_in (x ∷ xs) n ≡ one_of n x + times_in xs n
times_in-cons x xs n = sum_by-cons (one_of n) x xs

-- a number that stands in a list stands at a place
pub place_in : (xs : List ℕ) (n : ℕ) → 1 ≤ times_in xs n → Contains xs n
place_in [] n some = absurd (omega arith)
place_in (x ∷ xs) n some = ⊎_elim
    (λ t. (0, omega arith, t.1))
    (λ t.
    let parts : times_in (x ∷ xs) n ≡ one_of n x + times_in xs n = times_in-cons x xs n in
    let none : one_of n x ≡ 0 = one_of-other n x t.1 in
    let later : Contains xs n = place_in xs n (omega arith) in
    let below : later.0 < length xs = later.1 in
    (suc later.0, omega arith, later.2))
    (eqb_tells x n)

-- what stands at a place stands in the list
pub times_in-at : (xs : List ℕ) (i d : ℕ) → i < length xs → 1 ≤ times_in xs (get_or xs i d)
times_in-at xs i d lt =
    let at : one_of (get_or xs i d) (get_or xs i d) ≤ times_in xs (get_or xs i d) =
    get_or-le-sum_by (one_of (get_or xs i d)) xs i d lt in
    let one : one_of (get_or xs i d) (get_or xs i d) ≡ 1 = one_of-same (get_or xs i d) in
    omega arith

pub times_in-swap_remove : (xs : List ℕ) (i d n : ℕ) → i < length xs
    → times_in (swap_remove xs i d) n + cond (get_or xs i d == n) 1 0 ≡ times_in xs n
times_in-swap_remove xs i d n lt = sum_by-swap_remove (one_of n) xs i d lt

times_in-remove : (xs : List ℕ) (i d n : ℕ) → i < length xs
    → times_in (remove xs i) n + one_of n (get_or xs i d) ≡ times_in xs n
times_in-remove xs i d n lt = sum_by-remove (one_of n) xs i d lt

-- lists that have each number as often have the same elements
pub permutation-times_in : (xs ys : List ℕ) → ((n : ℕ) → times_in xs n ≡ times_in ys n)
    → IsPermutation xs ys
permutation-times_in [] [] same = IsPermutation-refl []
permutation-times_in [] (y ∷ ys) same =
    let here : 1 ≤ times_in (y ∷ ys) y = times_in-at (y ∷ ys) 0 y (omega arith) in
    let none : times_in [] y ≡ times_in (y ∷ ys) y = same y in
    let empty : times_in [] y ≡ 0 = refl in
    absurd (omega arith)
permutation-times_in (x ∷ xs) ys same =
    let here : 1 ≤ times_in (x ∷ xs) x = times_in-at (x ∷ xs) 0 x (omega arith) in
    let both : times_in (x ∷ xs) x ≡ times_in ys x = same x in
    let there : Contains ys x = place_in ys x (omega arith) in
    permutation-found x xs ys there (λ gone rest. permutation-times_in xs gone rest) same
  where
    permutation-found : (x : ℕ) (xs ys : List ℕ) (there : Contains ys x)
        → ((gone : List ℕ) → ((n : ℕ) → times_in xs n ≡ times_in gone n) → IsPermutation xs gone)
        → ((n : ℕ) → times_in (x ∷ xs) n ≡ times_in ys n) → IsPermutation (x ∷ xs) ys
    permutation-found x xs ys there more same =
        let gone : List ℕ = remove ys there.0 in
        let rest : (n : ℕ) → times_in xs n ≡ times_in gone n = λ n.
        let first : times_in (x ∷ xs) n ≡ one_of n x + times_in xs n = times_in-cons x xs n in
        let out : times_in gone n + one_of n (get_or ys there.0 x) ≡ times_in ys n =
        times_in-remove ys there.0 x n there.1 in
        let one : one_of n (get_or ys there.0 x) ≡ one_of n x = ap (one_of n) there.2 in
        let both : times_in (x ∷ xs) n ≡ times_in ys n = same n in
        omega arith in
        IsPermutation-trans _ _ _ (IsPermutation-cons x xs gone (more gone rest))
        (IsPermutation-sym _ _ (IsPermutation-remove ys there.0 x there.1 (sym there.2)))

times_in-one : (b : Bool) (m n : ℕ) → m ≢ n → times_in (if b then m ∷ [] else []) n ≡ 0
times_in-one true m n apart = times_in-push_other [] n m apart
times_in-one false m n apart = refl

times_in-self : (b : Bool) (n : ℕ) → times_in (if b then n ∷ [] else []) n ≡ cond b 1 0
times_in-self true n = times_in-push_same [] n
times_in-self false n = refl

times_in-more : (p : ℕ → Bool) (m n : ℕ)
    → times_in (filter p (range_with_len 0 (suc m))) n
    ≡ times_in (filter p (range_with_len 0 m)) n + times_in (if p m then m ∷ [] else []) n
times_in-more p m n =
    let next : suc m ≡ m + 1 = omega arith in
    ap (λ k. times_in (filter p (range_with_len 0 k)) n) next
    ∙ ap (λ xs. times_in xs n) (filter_more p m)
    ∙ sum_by-append (one_of n) (filter p (range_with_len 0 m)) (if p m then m ∷ [] else [])

-- of the numbers that pass a test, up to a bound, one beyond it is none
pub times_in-filter_above : (p : ℕ → Bool) (m n : ℕ) → m ≤ n
    → times_in (filter p (range_with_len 0 m)) n ≡ 0
times_in-filter_above p zero n le = refl
times_in-filter_above p (suc m) n le =
    let more : times_in (filter p (range_with_len 0 (suc m))) n
    ≡ times_in (filter p (range_with_len 0 m)) n + times_in (if p m then m ∷ [] else []) n =
    times_in-more p m n in
    let before : times_in (filter p (range_with_len 0 m)) n ≡ 0 =
    times_in-filter_above p m n (omega arith) in
    let none : times_in (if p m then m ∷ [] else []) n ≡ 0 =
    times_in-one (p m) m n (λ e. omega arith) in
    more ∙ ap (λ k. k + times_in (if p m then m ∷ [] else []) n) before ∙ ap (λ k. 0 + k) none

times_in-filter_last : (p : ℕ → Bool) (m : ℕ)
    → times_in (filter p (range_with_len 0 (suc m))) m ≡ cond (p m) 1 0
times_in-filter_last p m =
    let before : times_in (filter p (range_with_len 0 m)) m ≡ 0 =
    times_in-filter_above p m m (omega arith) in
    let zeroed : (k : ℕ) → 0 + k ≡ k = λ k. omega arith in
    times_in-more p m m ∙ ap (λ k. k + times_in (if p m then m ∷ [] else []) m) before ∙ zeroed _
    ∙ times_in-self (p m) m

times_in-filter_next : (p : ℕ → Bool) (m n : ℕ) → m ≢ n
    → times_in (filter p (range_with_len 0 m)) n ≡ cond (p n) 1 0
    → times_in (filter p (range_with_len 0 (suc m))) n ≡ cond (p n) 1 0
times_in-filter_next p m n apart before =
    let zeroed : (k : ℕ) → k + 0 ≡ k = λ k. omega arith in
    times_in-more p m n ∙ ap (λ k. times_in (filter p (range_with_len 0 m)) n + k)
    (times_in-one (p m) m n apart) ∙ zeroed _ ∙ before

-- and one below it that passes stands there once
pub times_in-filter : (p : ℕ → Bool) (m n : ℕ) → n < m
    → times_in (filter p (range_with_len 0 m)) n ≡ cond (p n) 1 0
times_in-filter p zero n lt = absurd (omega arith)
times_in-filter p (suc m) n lt = ⊎_elim
    (λ t. subst (λ k. times_in (filter p (range_with_len 0 (suc m))) k ≡ cond (p k) 1 0) t.1
    (times_in-filter_last p m))
    (λ t. times_in-filter_next p m n t.1 (times_in-filter p m n (below_last m n lt t.1)))
    (eqb_tells m n)
  where
    below_last : (m n : ℕ) → n < suc m → m ≢ n → n < m
    below_last m n lt apart = ⊎_elim (λ h. h) (λ h. absurd (apart (omega arith))) (cases_lt n m)
