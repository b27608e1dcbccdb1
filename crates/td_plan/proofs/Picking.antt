-- Items of lists, by their places, and those that pass tests.
use Rattle.std.proofs.Common.{◌≡◌, ℕ, zero, suc, ◌+◌, ◌<◌, ◌&&◌, ◌∷◌, [], Bool, true}
use Rattle.std.proofs.Common.{false, List, Option, None, Some, filter, fold}
use Rattle.std.proofs.Common.{slice_get, drop, refl, sym, ap, subst, ◌∙◌, inl, inr}
use Rattle.std.proofs.Common.{arith}
use Rattle.std.proofs.Common.{add-one, if◌then◌else◌}
use Rattle.std.specs.List.{Contains, list_any, range_with_len}
use Rattle.std.specs.Option.{option_map_or}
use Rattle.std.proofs.lemmas.Bool.{cases_Bool}
use Rattle.std.proofs.Math.Bool.{and_assoc}
use Rattle.td_text.proofs.Anywhere.{any-same}
use Rattle.td_text.proofs.Chain.{some_is}
use Rattle.td_indices.specs.Archive.{Contents, is_of, numbers_of, places_from}
use Rattle.td_indices.specs.Kept.{KeptBinary}
use Rattle.td_indices.proofs.OfferLaws.{has_cases, has_first, has_more}
use Rattle.td_indices.proofs.Places.{any-places, front_of}
use Rattle.td_plan.specs.inner.Movers.{stepped}

-- ---- 1. by places

filter-from : (f g : ℕ → Bool) (a n : ℕ) → ((k : ℕ) → k < a + n → f k ≡ g k)
    → filter f (range_with_len a n) ≡ filter g (range_with_len a n)
filter-from f g a zero same = refl
filter-from f g a (suc n) same =
    let rest = filter-from f g (a + 1) n (λ k lt. same k (omega arith)) in
    ap (λ (b : Bool). if b then a ∷ filter f (range_with_len (a + 1) n)
    else filter f (range_with_len (a + 1) n)) (same a (omega arith))
    ∙ ap (λ (l : List ℕ). if g a then a ∷ l else l) rest

-- tests that agree below a number pass the same numbers below it
pub filter-below : (f g : ℕ → Bool) (n : ℕ) → ((k : ℕ) → k < n → f k ≡ g k)
    → filter f (range_with_len 0 n) ≡ filter g (range_with_len 0 n)
filter-below f g n same = filter-from f g 0 n (λ k lt. same k (omega arith))

-- ---- 2. the packages of a source

-- whether the package with a number passes a test
abbrev pub passes_at : Contents → (KeptBinary → Bool) → ℕ → Bool
passes_at a test k = option_map_or test (slice_get a.binaries k) false

-- whether a package of the source passes a test
pub any-of_source : (a : Contents) (name : List ℕ) (test : KeptBinary → Bool)
    → list_any (passes_at a test) (numbers_of a name)
    ≡ list_any (λ b. is_of name b && test b) a.binaries
any-of_source a name test =
    any-places (is_of name) (passes_at a test) test a.binaries a.binaries 0
    (λ k b at. ap (λ (o : Option KeptBinary). option_map_or test o false) at) refl

-- whether a package of the source passes a test of two parts
pub any-of_source_both : (a : Contents) (name : List ℕ) (one other : KeptBinary → Bool)
    → list_any (passes_at a (λ b. one b && other b)) (numbers_of a name)
    ≡ list_any (λ b. (is_of name b && one b) && other b) a.binaries
any-of_source_both a name one other =
    any-of_source a name (λ b. one b && other b)
    ∙ any-same (λ b. is_of name b && (one b && other b)) (λ b. (is_of name b && one b) && other b)
    a.binaries (λ b. sym (and_assoc (is_of name b) (one b) (other b)))

-- a number of an item that passes has such an item
pub places-found : {A : Type 0} (test : A → Bool) (all xs : List A) (n k : ℕ) → drop n all ≡ xs
    → Contains (places_from test n xs) k → (x : A) × (slice_get all k ≡ Some x) × (test x ≡ true)
places-found test all [] n k h has = let low = has.1 in absurd (omega arith)
places-found {A} test all (x ∷ xs) n k h has =
    let front = front_of all n x xs h in
    let P : List ℕ = places_from test (n + 1) xs in
    let later =
    λ (more : Contains P k). places-found test all xs (n + 1) k (rw add-one front.1) more
    in
    elim (cases_Bool (test x)) [
      | inl is ↦
          let mine : Contains (n ∷ P) k = rw is at has in
          elim (has_cases n P k mine) [
            | inl same ↦
                (x, subst (λ (m : ℕ). slice_get all m ≡ Some x) same front.0, is)
            | inr more ↦ later more
          ]
      | inr other ↦ later (rw other at has)
    ]

-- an item that passes has its number there
pub places-again : {A : Type 0} (test : A → Bool) (xs : List A) (n k : ℕ) (x : A)
    → slice_get xs k ≡ Some x → test x ≡ true → Contains (places_from test n xs) (n + k)
places-again test [] n k x at is = absurd (let bad : None ≡ Some x = at in cc)
places-again {A} test (y ∷ xs) n zero x at is =
    let own : test y ≡ true = ap test (some_is y x at) ∙ is in
    let here : n ≡ n + 0 = omega arith in
    rw own (subst (Contains (n ∷ places_from test (n + 1) xs)) here
    (has_first n (places_from test (n + 1) xs)))
places-again test (y ∷ xs) n (suc k) x at is =
    let P : List ℕ = places_from test (n + 1) xs in
    let far : n + 1 + k ≡ n + suc k = omega arith in
    let later : Contains P (n + suc k) =
    subst (Contains P) far (places-again test xs (n + 1) k x at is) in
    elim (cases_Bool (test y)) [
      | inl own ↦ rw own (has_more n P (n + suc k) later)
      | inr other ↦ rw other later
    ]

-- ---- 3. folds over them

-- a fold over the numbers of items that pass a test, of those that pass another, is one over the
-- items that pass both
pub fold-places : {A B : Type 0} (f : B → A → B) (test there : A → Bool) (bs xs : List A) (n : ℕ)
    (o : B) → drop n bs ≡ xs
    → fold (λ (w : B) (k : ℕ). stepped f there w (slice_get bs k)) o (places_from test n xs)
    ≡ fold f o (filter (λ x. test x && there x) xs)
fold-places f test there bs [] n o h = refl
fold-places {A} {B} f test there bs (x ∷ xs) n o h =
    let g = front_of bs n x xs h in
    let next : drop (n + 1) bs ≡ xs = rw add-one g.1 in
    let step = λ (w : B) (k : ℕ). stepped f there w (slice_get bs k) in
    let P : List ℕ = places_from test (n + 1) xs in
    elim (cases_Bool (test x)) [
      | inl own ↦
          let listed : places_from test n (x ∷ xs) ≡ n ∷ P = rw own refl in
          let taken : fold step o (n ∷ P) ≡ fold step (stepped f there o (Some x)) P =
          ap (λ (i : Option A). fold step (stepped f there o i) P) g.0 in
          let rest = fold-places f test there bs xs (n + 1) (stepped f there o (Some x)) next in
          ap (fold step o) listed ∙ taken ∙ rest
          ∙ elim (cases_Bool (there x)) [
            | inl is ↦ rw (own, is) refl
            | inr other ↦ rw (own, other) refl
          ]
      | inr foreign ↦ rw foreign (fold-places f test there bs xs (n + 1) o next)
    ]
