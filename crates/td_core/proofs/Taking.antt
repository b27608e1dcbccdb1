-- The keys that a command takes.
use Rattle.std.proofs.Common.{◌≡◌, ℕ, zero, suc, ◌+◌, ◌<◌, ◌≤◌, Bool, true, false, List, []}
use Rattle.std.proofs.Common.{◌∷◌, ◌++◌, Some, if◌then◌else◌, filter, take, drop, length, get_or}
use Rattle.std.proofs.Common.{slice_get, ap, refl, sym, ◌∙◌, append_assoc, append-nil, arith}
use Rattle.std.specs.Prelude.{◌==◌}
use Rattle.std.proofs.lemmas.Bool.{and_parts, and_from}
use Rattle.std.proofs.lemmas.Bool.Decides.{nat_tests}
use Rattle.std.proofs.lemmas.Option.{slice_get-get_or}
use Rattle.td_rows.proofs.Lists.{take-next, drop-next}
use Rattle.td_rows.proofs.Tables.{names-before}
use Rattle.std.specs.Ordering.{is_lt}
use Rattle.td_rows.specs.declared.key.Key.{Key}
use Rattle.td_rows.specs.declared.kind.Kind.{Kind}
use Rattle.td_rows.specs.Keys.{same_key, names, key_cmp, below_all, ascending}
use Rattle.td_rows.specs.Table.{Table, fits, AppliesOn}
use Rattle.td_rows.proofs.Keys.{same_key-true, same_key-refl}
use Rattle.td_change.specs.Plans.{without}

-- what is taken passes, and was there
pub passes-filter : (p : Key → Bool) (ks : List Key) (k : Key) → names (filter p ks) k ≡ true
    → p k ≡ true
passes-filter p [] k h = cc
passes-filter p (q ∷ ks) k h =
    elim (p q) as (λ b.
    p q ≡ b → names (if b then q ∷ filter p ks else filter p ks) k ≡ true → p k ≡ true) [
      | true ↦
          λ is. elim (same_key k q) as (λ c.
          same_key k q ≡ c → (if c then true else names (filter p ks) k) ≡ true → p k ≡ true) [
            | true ↦ λ same _. ap p (same_key-true k q same) ∙ is
            | false ↦ λ _ g. passes-filter p ks k g
          ] refl
      | false ↦ λ _ g. passes-filter p ks k g
    ] refl h

pub names-filter : (p : Key → Bool) (ks : List Key) (k : Key) → names (filter p ks) k ≡ true
    → names ks k ≡ true
names-filter p [] k h = h
names-filter p (q ∷ ks) k h =
    elim (same_key k q) as (λ c.
    names (if p q then q ∷ filter p ks else filter p ks) k ≡ true → same_key k q ≡ c
    → (if c then true else names ks k) ≡ true) [
      | true ↦ λ _ _. refl
      | false ↦
          λ g other. elim (p q) as (λ b.
          names (if b then q ∷ filter p ks else filter p ks) k ≡ true → names ks k ≡ true) [
            | true ↦
                λ f. names-filter p ks k
                (ap (λ c. if c then true else names (filter p ks) k) (sym other) ∙ f)
            | false ↦ λ f. names-filter p ks k f
          ] g
    ] h refl

pub unnamed-filter : (p : Key → Bool) (ks : List Key) (k : Key) → names ks k ≡ false
    → names (filter p ks) k ≡ false
unnamed-filter p ks k h = at (names (filter p ks) k) refl
  where
    at : (b : Bool) → names (filter p ks) k ≡ b → names (filter p ks) k ≡ false
    at true is = absurd (let bad = sym (names-filter p ks k is) ∙ h in cc)
    at false is = is

pub AppliesOn-filter : (t : Table) (kind : Kind) (ks : List Key)
    → AppliesOn t kind (filter (fits t kind) ks)
AppliesOn-filter t kind ks k named = passes-filter (fits t kind) ks k named

-- what is taken of rising keys rises
pub below_all-filter : (p : Key → Bool) (x : Key) (ks : List Key) → below_all x ks ≡ true
    → below_all x (filter p ks) ≡ true
below_all-filter p x [] h = refl
below_all-filter p x (q ∷ ks) h =
    let parts = and_parts (is_lt (key_cmp x q)) (below_all x ks) h in
    let rest = below_all-filter p x ks parts.1 in
    elim (p q) as (λ b. below_all x (if b then q ∷ filter p ks else filter p ks) ≡ true) [
      | true ↦ and_from (is_lt (key_cmp x q)) (below_all x (filter p ks)) parts.0 rest
      | false ↦ rest
    ]

pub ascending-filter : (p : Key → Bool) (ks : List Key) → ascending ks ≡ true
    → ascending (filter p ks) ≡ true
ascending-filter p [] h = refl
ascending-filter p (q ∷ ks) h =
    let parts = and_parts (below_all q ks) (ascending ks) h in
    let rest = ascending-filter p ks parts.1 in
    elim (p q) as (λ b. ascending (if b then q ∷ filter p ks else filter p ks) ≡ true) [
      | true ↦
          and_from (below_all q (filter p ks)) (ascending (filter p ks))
          (below_all-filter p q ks parts.0) rest
      | false ↦ rest
    ]

-- the first key that isn't before it is left out
pub without-here : (ks rest : List Key) (k : Key) → names ks k ≡ false
    → without k (ks ++ k ∷ rest) ≡ ks ++ rest
without-here [] rest k h = ap (λ b. if b then rest else k ∷ without k rest) (same_key-refl k)
without-here (q ∷ ks) rest k h =
    elim (same_key k q) as (λ b.
    (if b then true else names ks k) ≡ false
    → (if b then ks ++ k ∷ rest else q ∷ without k (ks ++ k ∷ rest)) ≡ q ∷ (ks ++ rest)) [
      | true ↦ λ g. cc
      | false ↦ λ g. ap (λ (xs : List Key). q ∷ xs) (without-here ks rest k g)
    ] h

pub filter-append : (p : Key → Bool) (a b : List Key) → filter p (a ++ b) ≡ filter p a ++ filter p b
filter-append p [] b = refl
filter-append p (q ∷ a) b =
    elim (p q) as (λ c. (if c then q ∷ filter p (a ++ b) else filter p (a ++ b))
    ≡ (if c then q ∷ filter p a else filter p a) ++ filter p b) [
      | true ↦ ap (λ (xs : List Key). q ∷ xs) (filter-append p a b)
      | false ↦ filter-append p a b
    ]

-- the next key, which stays
pub filter-kept : (p : Key → Bool) (ks : List Key) (i : ℕ) (k : Key) → i < length ks
    → k ≡ get_or ks i k → p k ≡ true
    → filter p (take (i + 1) ks) ++ drop (i + 1) ks ≡ filter p (take i ks) ++ drop i ks
filter-kept p ks i k within is fit =
    let at : slice_get ks i ≡ Some k = slice_get-get_or ks i k within ∙ ap (λ x. Some x) (sym is) in
    ap (λ (xs : List Key). filter p xs ++ drop (i + 1) ks) (take-next ks i k at)
    ∙ ap (λ (xs : List Key). xs ++ drop (i + 1) ks)
    (filter-append p (take i ks) (k ∷ [])
    ∙ ap (λ b. filter p (take i ks) ++ (if b then k ∷ [] else [])) fit)
    ∙ append_assoc (filter p (take i ks)) (k ∷ []) (drop (i + 1) ks)
    ∙ ap (λ (xs : List Key). filter p (take i ks) ++ xs) (sym (drop-next ks i k at))

-- the next key, which is left out
pub filter-left_out : (p : Key → Bool) (ks : List Key) (i : ℕ) (k : Key) → ascending ks ≡ true
    → i < length ks → k ≡ get_or ks i k → p k ≡ false
    → filter p (take (i + 1) ks) ++ drop (i + 1) ks ≡ without k (filter p (take i ks) ++ drop i ks)
filter-left_out p ks i k rising within is unfit =
    let at : slice_get ks i ≡ Some k = slice_get-get_or ks i k within ∙ ap (λ x. Some x) (sym is) in
    let apart : names (take i ks) k ≡ false =
    ap (names (take i ks)) is ∙ names-before ks i k rising within in
    ap (λ (xs : List Key). filter p xs ++ drop (i + 1) ks) (take-next ks i k at)
    ∙ ap (λ (xs : List Key). xs ++ drop (i + 1) ks)
    (filter-append p (take i ks) (k ∷ [])
    ∙ ap (λ b. filter p (take i ks) ++ (if b then k ∷ [] else [])) unfit
    ∙ append-nil (filter p (take i ks)))
    ∙ sym (without-here (filter p (take i ks)) (drop (i + 1) ks) k
    (unnamed-filter p (take i ks) k apart))
    ∙ ap (λ (xs : List Key). without k (filter p (take i ks) ++ xs)) (sym (drop-next ks i k at))

pub filter-start : (p : Key → Bool) (ks : List Key) → filter p (take 0 ks) ++ drop 0 ks ≡ ks
filter-start p [] = refl
filter-start p (k ∷ ks) = refl

pub filter-end : (p : Key → Bool) (ks : List Key) (i : ℕ) → length ks ≤ i
    → filter p (take i ks) ++ drop i ks ≡ filter p ks
filter-end p [] zero h = refl
filter-end p [] (suc i) h = refl
filter-end p (k ∷ ks) zero h = absurd (omega (arith, h))
filter-end p (k ∷ ks) (suc i) h =
    elim (p k) as (λ b. (if b then k ∷ filter p (take i ks) else filter p (take i ks)) ++ drop i ks
    ≡ (if b then k ∷ filter p ks else filter p ks)) [
      | true ↦ ap (λ (xs : List Key). k ∷ xs) (filter-end p ks i (omega (arith, h)))
      | false ↦ filter-end p ks i (omega (arith, h))
    ]

-- a list of no items
pub nil-is_empty : {A : Type 0} (xs : List A) (n : ℕ) → (n == 0) ≡ true → length xs ≡ n → xs ≡ []
nil-is_empty [] n h e = refl
nil-is_empty (x ∷ xs) n h e =
    absurd (let none : n ≡ 0 = grind (arith, nat_tests, h) in omega (arith, e, none))
