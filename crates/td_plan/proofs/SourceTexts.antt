-- The lines of a source, one after the other.
use Rattle.std.proofs.Common.{◌≡◌, ℕ, ◌+◌, ◌<◌, cond, List, [], ◌∷◌, ◌++◌}
use Rattle.std.proofs.Common.{length}
use Rattle.std.proofs.Common.{get_or, map, take, Option, Some, None, refl, sym, ap, ◌∙◌, inl, inr}
use Rattle.std.proofs.Common.{append_assoc, append-nil}
use Rattle.std.specs.Prelude.{filter, option_map, slice_get}
use Rattle.std.specs.List.{flat_map}
use Rattle.std.specs.Option.{option_map_or}
use Rattle.std.proofs.lemmas.Bool.{cases_Bool}
use Rattle.std.proofs.lemmas.List.{map-append, take_more}
use Rattle.std.proofs.lemmas.List.Concat.{flat_map-append}
use Rattle.std.proofs.lemmas.List.Elements.{filter-append}
use Rattle.std.proofs.lemmas.Option.{slice_get_read}
use Rattle.td_text.specs.Lines.{text_of}
use Rattle.td_text.proofs.Chain.{some_is}
use Rattle.td_rows.specs.declared.key.Key.{Key}
use Rattle.td_plan.specs.declared.waits.Wait.{Wait}
use Rattle.td_plan.specs.Lines.{check_line}
use Rattle.td_plan.specs.Waits as spec
use Rattle.td_plan.specs.inner.Waiting.{seen}
use Rattle.td_plan.specs.inner.Writing.{checks_of}

pub text_of-append : (xs ys : List (List ℕ)) → text_of (xs ++ ys) ≡ text_of xs ++ text_of ys
text_of-append xs ys = flat_map-append (λ (line : List ℕ). line ++ 10 ∷ []) xs ys

-- the items so far, and one more
pub taken : {A : Type 0} (xs : List A) (i : ℕ) (x : A) → i < length xs → x ≡ get_or xs i x
    → take (i + 1) xs ≡ take i xs ++ x ∷ []
taken xs i x low is = take_more xs i x low ∙ ap (λ y. take i xs ++ y ∷ []) (sym is)

-- lines for one item more
pub lines-more : {A : Type 0} (F : A → List (List ℕ)) (xs : List A) (i : ℕ) (x : A)
    → i < length xs → x ≡ get_or xs i x
    → text_of (flat_map F (take (i + 1) xs)) ≡ text_of (flat_map F (take i xs)) ++ text_of (F x)
lines-more F xs i x low is =
    ap (λ l. text_of (flat_map F l)) (taken xs i x low is)
    ∙ ap text_of (flat_map-append F (take i xs) (x ∷ [])
    ∙ ap (λ l. flat_map F (take i xs) ++ l) (append-nil (F x)))
    ∙ text_of-append (flat_map F (take i xs)) (F x)

-- a line for one item more
pub line-more : {A : Type 0} (F : A → List ℕ) (xs : List A) (i : ℕ) (x : A) → i < length xs
    → x ≡ get_or xs i x
    → text_of (map F (take (i + 1) xs)) ≡ text_of (map F (take i xs)) ++ (F x ++ 10 ∷ [])
line-more F xs i x low is =
    ap (λ l. text_of (map F l)) (taken xs i x low is)
    ∙ ap text_of (map-append F (take i xs) (x ∷ []))
    ∙ text_of-append (map F (take i xs)) (F x ∷ [])
    ∙ ap (λ l. text_of (map F (take i xs)) ++ l) (append-nil (F x ++ 10 ∷ []))

-- ---- comments on waits

checks-append : (k : Key) (xs ys : List Wait)
    → checks_of k (xs ++ ys) ≡ checks_of k xs ++ checks_of k ys
checks-append k xs ys =
    let F = λ (v : spec.Wait). check_line k v.name v.on in
    let O = λ (v : spec.Wait). v.older in
    ap (λ l. map F (filter O l)) (map-append seen xs ys)
    ∙ ap (map F) (filter-append O (map seen xs) (map seen ys))
    ∙ map-append F (filter O (map seen xs)) (filter O (map seen ys))

checks-one : (k : Key) (w : Wait) → text_of (checks_of k (w ∷ []))
    ≡ cond w.is_older (check_line k w.name.now w.on.now ++ 10 ∷ []) []
checks-one k w = elim (cases_Bool w.is_older) [
  | inl is ↦ rw is (append-nil (check_line k w.name.now w.on.now ++ 10 ∷ []))
  | inr other ↦ rw other refl
]

pub checks-more : (k : Key) (ws : List Wait) (i : ℕ) (w : Wait) → i < length ws
    → w ≡ get_or ws i w
    → text_of (checks_of k (take (i + 1) ws)) ≡ text_of (checks_of k (take i ws))
    ++ cond w.is_older (check_line k w.name.now w.on.now ++ 10 ∷ []) []
checks-more k ws i w low is =
    ap (λ l. text_of (checks_of k l)) (taken ws i w low is)
    ∙ ap text_of (checks-append k (take i ws) (w ∷ []))
    ∙ text_of-append (checks_of k (take i ws)) (checks_of k (w ∷ []))
    ∙ ap (λ l. text_of (checks_of k (take i ws)) ++ l) (checks-one k w)

-- ---- what is at a place

pub name-is : {A : Type 0} (f : A → List ℕ) (o : Option A) (name : List ℕ)
    → option_map f o ≡ Some name → option_map_or f o [] ≡ name
name-is f None name h = absurd (let bad : None ≡ Some name = h in cc)
name-is f (Some a) name h = some_is (f a) name h

pub list-is : {A B : Type 0} (f : A → List B) (xs : List A) (i : ℕ) (x : A) → i < length xs
    → x ≡ get_or xs i x → option_map_or f (slice_get xs i) [] ≡ f x
list-is f xs i x low is =
    ap (λ o. option_map_or f o []) (slice_get_read xs (length xs) i x refl low is)

-- ---- texts one after the other

-- a line, and then lines
pub line-then : (start mid end line : List ℕ) (lines : List (List ℕ))
    → mid ≡ start ++ (line ++ 10 ∷ []) → end ≡ mid ++ text_of lines
    → end ≡ start ++ text_of (line ∷ lines)
line-then start mid end line lines first rest =
    rest ∙ ap (λ (t : List ℕ). t ++ text_of lines) first
    ∙ append_assoc start (line ++ 10 ∷ []) (text_of lines)

-- lines, and then lines
pub lines-then : (start mid end : List ℕ) (xs ys : List (List ℕ)) → mid ≡ start ++ text_of xs
    → end ≡ mid ++ text_of ys → end ≡ start ++ text_of (xs ++ ys)
lines-then start mid end xs ys first rest =
    rest ∙ ap (λ (t : List ℕ). t ++ text_of ys) first
    ∙ append_assoc start (text_of xs) (text_of ys)
    ∙ ap (λ (t : List ℕ). start ++ t) (sym (text_of-append xs ys))
