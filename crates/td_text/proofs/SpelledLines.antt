-- Lines that are read one by one, each as the spelling of a value.
use Rattle.std.proofs.Common.{◌≡◌, ◌≢◌, ℕ, ◌+◌, List, [], ◌∷◌, ◌++◌, map, length, Option, Some, None}
use Rattle.std.proofs.Common.{refl, sym, ap, ◌∙◌, append_assoc}
use Rattle.std.specs.List.{AllByRecursion}
use Rattle.std.proofs.lemmas.List.{append-nil, map_push}
use Rattle.td_text.specs.Exact.{Exact}
use Rattle.td_text.specs.Spelled.{AreSpelled, IsFirstOther}
use Rattle.td_text.proofs.Chain.{some_is}

-- what holds of all items and of one more
pub all_pushed : {A : Type 0} (P : A → Type 0) (xs : List A) (x : A) → AllByRecursion P xs → P x
    → AllByRecursion P (xs ++ x ∷ [])
all_pushed P [] x all here = (here, tt)
all_pushed P (y ∷ xs) x all here = (all.0, all_pushed P xs x all.1 here)

-- what the values that were read say of the lines, and what is left of these
pub record AreRead {V : Type 0} (spell : V → List ℕ) (Fits : V → Type 0) (lines : List (List ℕ))
    (vs : List V) (left : List (List ℕ)) : Type 0 where
  pub parts : lines ≡ map spell vs ++ left
  pub fits : AllByRecursion Fits vs

module _ {V : Type 0} (read : List ℕ → Option V) (spell : V → List ℕ) (Fits : V → Type 0)
    (exact : Exact read spell Fits) where
  pub AreRead-none : (lines : List (List ℕ)) → AreRead spell Fits lines [] lines
  AreRead-none lines = record { parts = refl; fits = tt }

  -- a line that is read
  pub AreRead-push : (lines : List (List ℕ)) (vs : List V) (v : V) (line : List ℕ)
      (left after : List (List ℕ)) → AreRead spell Fits lines vs left → left ≡ line ∷ after
      → read line ≡ Some v → AreRead spell Fits lines (vs ++ v ∷ []) after
  AreRead-push lines vs v line left after h is found =
      let f = exact.found line v found in
      record {
        parts = h.parts
            ∙ ap (λ (l : List (List ℕ)). map spell vs ++ l)
            (is ∙ ap (λ (t : List ℕ). t ∷ after) f.0)
            ∙ sym (append_assoc (map spell vs) (spell v ∷ []) after)
            ∙ ap (λ (l : List (List ℕ)). l ++ after) (sym (map_push spell vs v));
        fits = all_pushed Fits vs v h.fits f.1;
      }

  -- no line is left
  pub AreRead-all : (lines : List (List ℕ)) (vs : List V) (left : List (List ℕ))
      → AreRead spell Fits lines vs left → left ≡ [] → AreSpelled spell Fits lines vs
  AreRead-all lines vs left h none =
      record {
        spelled = h.parts ∙ ap (λ (l : List (List ℕ)). map spell vs ++ l) none
            ∙ append-nil (map spell vs);
        fits = h.fits;
      }

  -- a line that isn't read
  pub AreRead-other : (first number : ℕ) (lines : List (List ℕ)) (vs : List V) (line : List ℕ)
      (left after : List (List ℕ)) → AreRead spell Fits lines vs left → left ≡ line ∷ after
      → read line ≡ None → number ≡ first + length vs → IsFirstOther spell Fits first lines number
  AreRead-other first number lines vs line left after h is none counted = record {
    before = vs;
    line = line;
    after = after;
    parts = h.parts ∙ ap (λ (l : List (List ℕ)). map spell vs ++ l) is;
    fits = h.fits;
    other = λ v fits same.
        (let bad : Some v ≡ None = sym (exact.again v fits) ∙ ap read (sym same) ∙ none in
        absurd cc);
    counted = counted;
  }

  -- lines are those of one list of values
  one_value : (a b : V) → Fits a → Fits b → spell a ≡ spell b → a ≡ b
  one_value a b ha hb is =
      some_is a b (sym (exact.again a ha) ∙ ap read is ∙ exact.again b hb)

  one_list : (a b : List V) → AllByRecursion Fits a → AllByRecursion Fits b
      → map spell a ≡ map spell b → a ≡ b
  one_list [] [] ha hb is = refl
  one_list [] (y ∷ b) ha hb is = absurd cc
  one_list (x ∷ a) [] ha hb is = absurd cc
  one_list (x ∷ a) (y ∷ b) ha hb is =
      let head : spell x ≡ spell y = cc in
      let tail : map spell a ≡ map spell b = cc in
      let same = one_value x y ha.0 hb.0 head in
      let rest = one_list a b ha.1 hb.1 tail in
      λ i. same i ∷ rest i

  pub AreSpelled-one : (lines : List (List ℕ)) (a b : List V) → AreSpelled spell Fits lines a
      → AreSpelled spell Fits lines b → a ≡ b
  AreSpelled-one lines a b ha hb = one_list a b ha.fits hb.fits (sym ha.spelled ∙ hb.spelled)

module _ {V : Type 0} (spell : V → List ℕ) (Fits : V → Type 0) where
  none_other : (vs before : List V) (line : List ℕ) (after : List (List ℕ))
      → AllByRecursion Fits vs → map spell vs ≡ map spell before ++ line ∷ after
      → ((v : V) → Fits v → line ≢ spell v) → ⊥
  none_other [] [] line after h is other = cc
  none_other [] (x ∷ before) line after h is other = cc
  none_other (v ∷ vs) [] line after h is other =
      other v h.0 (let head : line ≡ spell v = cc in head)
  none_other (v ∷ vs) (x ∷ before) line after h is other =
      none_other vs before line after h.1
      (let tail : map spell vs ≡ map spell before ++ line ∷ after = cc in tail) other

  -- and none of them is another
  pub AreSpelled-other : (first number : ℕ) (lines : List (List ℕ)) (vs : List V)
      → AreSpelled spell Fits lines vs → IsFirstOther spell Fits first lines number → ⊥
  AreSpelled-other first number lines vs h bad =
      none_other vs bad.before bad.line bad.after h.fits (sym h.spelled ∙ bad.parts) bad.other
