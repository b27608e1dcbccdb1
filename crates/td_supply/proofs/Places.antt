-- The numbers of the items that pass a test.
use Rattle.std.proofs.Common.{◌≡◌, ℕ, zero, suc, ◌+◌, Bool, false, List, [], ◌∷◌, ◌++◌, length}
use Rattle.std.proofs.Common.{if◌then◌else◌, refl, sym, ap, ◌∙◌, inl, inr, arith, map, drop}
use Rattle.std.proofs.Common.{slice_get, Some, ◌&&◌, ◌||◌, filter, add-one}
use Rattle.std.specs.List.{list_any}
use Rattle.std.proofs.Math.Seq.{drop-nil}
use Rattle.std.proofs.lemmas.Bool.{cases_Bool}
use Rattle.td_supply.specs.Places.{places_from}

-- with one item more
pub places-push : {A : Type 0} (test : A → Bool) (n : ℕ) (xs : List A) (x : A)
    → places_from test n (xs ++ x ∷ [])
    ≡ (if test x then places_from test n xs ++ (n + length xs) ∷ [] else places_from test n xs)
places-push test n [] x =
    let here : n ≡ n + 0 = omega arith in
    elim (cases_Bool (test x)) [
      | inl is ↦ rw is (ap (λ (m : ℕ). m ∷ []) here)
      | inr other ↦ rw other refl
    ]
places-push test n (y ∷ xs) x =
    let later = places-push test (n + 1) xs x in
    let far : n + 1 + length xs ≡ n + suc (length xs) = omega arith in
    elim (cases_Bool (test x)) [
      | inl is ↦
          let l : places_from test (n + 1) (xs ++ x ∷ [])
          ≡ places_from test (n + 1) xs ++ (n + suc (length xs)) ∷ [] =
          later ∙ rw is refl ∙ ap (λ (m : ℕ). places_from test (n + 1) xs ++ m ∷ []) far in
          elim (cases_Bool (test y)) [
            | inl own ↦ rw (own, is) (ap (λ (l : List ℕ). n ∷ l) l)
            | inr none ↦ rw (none, is) l
          ]
      | inr other ↦
          let l : places_from test (n + 1) (xs ++ x ∷ []) ≡ places_from test (n + 1) xs =
          later ∙ rw other refl in
          elim (cases_Bool (test y)) [
            | inl own ↦ rw (own, other) (ap (λ (l : List ℕ). n ∷ l) l)
            | inr none ↦ rw (none, other) l
          ]
    ]

-- the numbers under a name agree still where the items and they have one more
pub agrees-push : {A : Type 0} (test : A → Bool) (xs : List A) (x : A) (old new : List ℕ) (n : ℕ)
    → old ≡ places_from test 0 xs → n ≡ length xs → new ≡ (if test x then old ++ n ∷ [] else old)
    → new ≡ places_from test 0 (xs ++ x ∷ [])
agrees-push test xs x old new n agree last is =
    let from_zero : n ≡ 0 + length xs = omega arith in
    is ∙ ap (λ (l : List ℕ). if test x then l ++ n ∷ [] else l) agree
    ∙ ap (λ (m : ℕ). if test x then places_from test 0 xs ++ m ∷ [] else places_from test 0 xs)
    from_zero
    ∙ sym (places-push test 0 xs x)

-- the same where the item fails the test
pub agrees-other : {A : Type 0} (test : A → Bool) (xs : List A) (x : A) (old : List ℕ)
    → old ≡ places_from test 0 xs → test x ≡ false → old ≡ places_from test 0 (xs ++ x ∷ [])
agrees-other test xs x old agree other =
    agrees-push test xs x old old (length xs) agree refl (sym (rw other refl))

-- of other items that pass as those do
pub places-map : {A B : Type 0} (test : B → Bool) (f : A → B) (n : ℕ) (xs : List A)
    → places_from test n (map f xs) ≡ places_from (λ x. test (f x)) n xs
places-map test f n [] = refl
places-map test f n (x ∷ xs) =
    let later = places-map test f (n + 1) xs in
    elim (cases_Bool (test (f x))) [
      | inl is ↦ rw is (ap (λ (l : List ℕ). n ∷ l) later)
      | inr other ↦ rw other later
    ]

pub places-same : {A : Type 0} (test other : A → Bool) (n : ℕ) (xs : List A)
    → ((x : A) → test x ≡ other x) → places_from test n xs ≡ places_from other n xs
places-same test other n [] same = refl
places-same test other n (x ∷ xs) same =
    let later = places-same test other (n + 1) xs same in
    ap (λ (b : Bool). if b then n ∷ places_from test (n + 1) xs else places_from test (n + 1) xs)
    (same x)
    ∙ ap (λ (l : List ℕ). if other x then n ∷ l else l) later

-- the first of what is left, and the rest
pub front_of : {A : Type 0} (items : List A) (n : ℕ) (x : A) (xs : List A) → drop n items ≡ x ∷ xs
    → (slice_get items n ≡ Some x) × (drop (suc n) items ≡ xs)
front_of [] n x xs h = absurd (let bad : ◌≡◌ {A = List _} [] (x ∷ xs) = sym (drop-nil n) ∙ h in cc)
front_of (y ∷ items) zero x xs h = (cc, cc)
front_of (y ∷ items) (suc n) x xs h = front_of items n x xs h

-- an item that passes one test has a number that passes another
pub any-places : {A : Type 0} (test : A → Bool) (f : ℕ → Bool) (g : A → Bool) (all xs : List A)
    (n : ℕ) → ((k : ℕ) (x : A) → slice_get all k ≡ Some x → f k ≡ g x) → drop n all ≡ xs
    → list_any f (places_from test n xs) ≡ list_any (λ x. test x && g x) xs
any-places test f g all [] n e h = refl
any-places test f g all (x ∷ xs) n e h =
    let front = front_of all n x xs h in
    let later = any-places test f g all xs (n + 1) e (rw add-one front.1) in
    elim (cases_Bool (test x)) [
      | inl passes ↦ rw passes
          (ap (λ b. b || list_any f (places_from test (n + 1) xs)) (e n x front.0)
          ∙ ap (λ b. g x || b) later)
      | inr fails ↦ rw fails later
    ]

pub any-filter : {A : Type 0} (keep test : A → Bool) (xs : List A)
    → list_any (λ x. keep x && test x) xs ≡ list_any test (filter keep xs)
any-filter keep test [] = refl
any-filter keep test (x ∷ xs) =
    elim (cases_Bool (keep x)) [
      | inl is ↦ rw is (ap (λ (b : Bool). test x || b) (any-filter keep test xs))
      | inr out ↦ rw out (any-filter keep test xs)
    ]
