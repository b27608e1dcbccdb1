-- The first of some things, whichever way they are listed.
use Rattle.std.proofs.Common.{◌≡◌, ℕ, Bool, true, false, cond, List, [], ◌∷◌, Option, Some, None}
use Rattle.std.proofs.Common.{refl, sym, ap, subst, ◌∙◌, inl, inr, fold}
use Rattle.std.specs.Prelude.{filter, is_some, slice_get}
use Rattle.std.specs.List.{Contains, cons_option, filter_map}
use Rattle.std.specs.Option.{option_map_or}
use Rattle.std.proofs.lemmas.Bool.{cond_both, false≢true}
use Rattle.std.proofs.lemmas.Option.{get_or_from_slice_get, slice_get-get_or, slice_get_within}
use Rattle.td_text.proofs.Chain.{some_is}
use Rattle.td_indices.proofs.OfferLaws.{has_cases, has_first, has_more}
use Rattle.td_plan.specs.InOrder.{earlier, is_before}
use Rattle.td_plan.specs.inner.Movers.{stepped}
use Rattle.td_plan.proofs.Existing.{none_has}
use Rattle.td_plan.proofs.InOrders.{first-least}
use Rattle.td_plan.proofs.PlacingsAlike.{same-by-order}

-- ---- 1. items by their numbers

pub numbered-has : {A : Type 0} (xs : List A) (k : ℕ) (x : A) → slice_get xs k ≡ Some x
    → Contains xs x
numbered-has xs k x at = (k, slice_get_within xs k x at, get_or_from_slice_get xs k x x at)

pub has-numbered : {A : Type 0} (xs : List A) (x : A) → Contains xs x
    → (k : ℕ) × (slice_get xs k ≡ Some x)
has-numbered xs x has = (has.0, slice_get-get_or xs has.0 x has.1 ∙ ap (λ y. Some y) has.2)

-- ---- 2. what is picked

-- an item, if there is one and it passes a test
abbrev pub kept_if : {A : Type 0} → (A → Bool) → Option A → Option A
kept_if test None = None
kept_if test (Some x) = cond (test x) (Some x) None

pub kept-is : {A : Type 0} (test : A → Bool) (o : Option A) (x : A) → kept_if test o ≡ Some x
    → (o ≡ Some x) × (test x ≡ true)
kept-is test None x h = absurd (cc)
kept-is test (Some y) x h = by (test y) refl h
  where
    by : (b : Bool) → test y ≡ b → cond b (Some y) None ≡ Some x
        → (Some y ≡ Some x) × (test x ≡ true)
    by true is g = (g, ap test (sym (some_is y x g)) ∙ is)
    by false is g = absurd (cc)

pub kept-again : {A : Type 0} (test : A → Bool) (o : Option A) (x : A) → o ≡ Some x
    → test x ≡ true → kept_if test o ≡ Some x
kept-again test o x at is =
    ap (kept_if test) at ∙ ap (λ (b : Bool). cond b (Some x) None) is

pub picked-found : {A B : Type 0} (h : A → Option B) (xs : List A) (y : B)
    → Contains (filter_map h xs) y → (x : A) × Contains xs x × (h x ≡ Some y)
picked-found h [] y has = absurd (none_has y has)
picked-found {A} {B} h (x ∷ xs) y has = by (h x) refl (picked-found h xs y) has
  where
    by : (o : Option B) → h x ≡ o
        → (Contains (filter_map h xs) y → (z : A) × Contains xs z × (h z ≡ Some y))
        → Contains (cons_option o (filter_map h xs)) y
        → (z : A) × Contains (x ∷ xs) z × (h z ≡ Some y)
    by None is found mine =
        let rest = found mine in (rest.0, has_more x xs rest.0 rest.1, rest.2)
    by (Some z) is found mine = elim (has_cases z (filter_map h xs) y mine) [
      | inl same ↦ (x, has_first x xs, is ∙ ap (λ w. Some w) same)
      | inr later ↦ (let rest = found later in (rest.0, has_more x xs rest.0 rest.1, rest.2))
    ]

pub picked-again : {A B : Type 0} (h : A → Option B) (xs : List A) (x : A) (y : B)
    → Contains xs x → h x ≡ Some y → Contains (filter_map h xs) y
picked-again h [] x y has is = absurd (none_has x has)
picked-again {A} {B} h (z ∷ xs) x y has is = elim (has_cases z xs x has) [
  | inl same ↦
      let here : h z ≡ Some y = ap h same ∙ is in
      subst (λ o. Contains (cons_option o (filter_map h xs)) y) (sym here)
      (has_first y (filter_map h xs))
  | inr later ↦ behind (h z) (picked-again h xs x y later is)
]
  where
    behind : (o : Option B) → Contains (filter_map h xs) y
        → Contains (cons_option o (filter_map h xs)) y
    behind None mine = mine
    behind (Some w) mine = has_more w (filter_map h xs) y mine

-- steps with the items that pass are steps with those that are picked
pub fold-picked : {A I : Type 0} (f : Option A → A → Option A) (test : I → A → Bool)
    (get : I → Option A) (o : Option A) (xs : List I)
    → fold (λ (w : Option A) (i : I). stepped f (test i) w (get i)) o xs
    ≡ fold f o (filter_map (λ i. kept_if (test i) (get i)) xs)
fold-picked f test get o [] = refl
fold-picked {A} {I} f test get o (i ∷ xs) =
    by (get i) (λ (w : Option A). fold-picked f test get w xs)
  where
    fold-one : (b : Bool) (x : A)
        → ((w : Option A) → fold (λ (v : Option A) (j : I). stepped f (test j) v (get j)) w xs
        ≡ fold f w (filter_map (λ j. kept_if (test j) (get j)) xs))
        → fold (λ (v : Option A) (j : I). stepped f (test j) v (get j)) (cond b (f o x) o) xs
        ≡ fold f o (cons_option (cond b (Some x) None)
        (filter_map (λ j. kept_if (test j) (get j)) xs))
    fold-one true x rest = rest (f o x)
    fold-one false x rest = rest o

    by : (q : Option A)
        → ((w : Option A) → fold (λ (v : Option A) (j : I). stepped f (test j) v (get j)) w xs
        ≡ fold f w (filter_map (λ j. kept_if (test j) (get j)) xs))
        → fold (λ (v : Option A) (j : I). stepped f (test j) v (get j)) (stepped f (test i) o q) xs
        ≡ fold f o (cons_option (kept_if (test i) q)
        (filter_map (λ j. kept_if (test j) (get j)) xs))
    by None rest = rest o
    by (Some x) rest = fold-one (test i x) x rest

-- ---- 3. the first of them

filter-every : {A : Type 0} (xs : List A) → filter (λ (x : A). true) xs ≡ xs
filter-every [] = refl
filter-every (x ∷ xs) = ap (λ ys. x ∷ ys) (filter-every xs)

module _ {A : Type 0} (name : A → List ℕ) where
  earlier-some : (best : Option A) (x : A) → is_some (earlier name best x) ≡ true
  earlier-some None x = refl
  earlier-some (Some y) x =
      cond_both (is_before (name x) (name y)) (Some x) (Some y) (λ o. is_some o ≡ true)
      (λ low. refl) (λ high. refl)

  fold-some : (best : Option A) (xs : List A) → is_some best ≡ true
      → is_some (fold (earlier name) best xs) ≡ true
  fold-some best [] h = h
  fold-some best (x ∷ xs) h = fold-some (earlier name best x) xs (earlier-some best x)

  pub there-is : (xs : List A) (x : A) → Contains xs x
      → is_some (fold (earlier name) None xs) ≡ true
  there-is [] x has = absurd (none_has x has)
  there-is (y ∷ ys) x has = fold-some (Some y) ys refl

  least-of : (xs : List A) (b : A) → fold (earlier name) None xs ≡ Some b
      → Contains xs b × ((c : A) → Contains xs c → is_before (name c) (name b) ≡ false)
  least-of xs b is =
      let found = first-least name (λ (x : A). true) xs b
      (ap (fold (earlier name) None) (filter-every xs) ∙ is) in
      (found.0, λ c has. found.2 c has refl)

  -- lists of the same things have the same first, if no two things have one name
  pub first-same : (xs ys : List A)
      → ((x y : A) → Contains xs x → Contains ys y → is_before (name x) (name y) ≡ false
      → is_before (name y) (name x) ≡ false → x ≡ y)
      → ((x : A) → Contains xs x → Contains ys x) → ((y : A) → Contains ys y → Contains xs y)
      → fold (earlier name) None xs ≡ fold (earlier name) None ys
  first-same xs ys tie there back =
      by (fold (earlier name) None xs) (fold (earlier name) None ys) refl refl
    where
      by : (o q : Option A) → fold (earlier name) None xs ≡ o → fold (earlier name) None ys ≡ q
          → o ≡ q
      by None None mine other = refl
      by None (Some y) mine other = absurd (false≢true
          (sym (ap is_some mine) ∙ there-is xs y (back y (least-of ys y other).0)))
      by (Some x) None mine other = absurd (false≢true
          (sym (ap is_some other) ∙ there-is ys x (there x (least-of xs x mine).0)))
      by (Some x) (Some y) mine other =
          let left = least-of xs x mine in
          let right = least-of ys y other in
          ap (λ z. Some z) (tie x y left.0 right.0 (right.1 x (there x left.0))
          (left.1 y (back y right.0)))

  -- lists of the same things have firsts with one name
  pub first-named : (xs ys : List A)
      → ((x : A) → Contains xs x → Contains ys x) → ((y : A) → Contains ys y → Contains xs y)
      → option_map_or name (fold (earlier name) None xs) []
      ≡ option_map_or name (fold (earlier name) None ys) []
  first-named xs ys there back =
      by (fold (earlier name) None xs) (fold (earlier name) None ys) refl refl
    where
      by : (o q : Option A) → fold (earlier name) None xs ≡ o → fold (earlier name) None ys ≡ q
          → option_map_or name o [] ≡ option_map_or name q []
      by None None mine other = refl
      by None (Some y) mine other = absurd (false≢true
          (sym (ap is_some mine) ∙ there-is xs y (back y (least-of ys y other).0)))
      by (Some x) None mine other = absurd (false≢true
          (sym (ap is_some other) ∙ there-is ys x (there x (least-of xs x mine).0)))
      by (Some x) (Some y) mine other =
          let left = least-of xs x mine in
          let right = least-of ys y other in
          same-by-order (name x) (name y) (right.1 x (there x left.0))
          (left.1 y (back y right.0))
