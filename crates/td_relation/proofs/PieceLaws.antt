-- A text piece by piece.
use Rattle.std.proofs.Common.{◌≡◌, ℕ, suc, Bool, true, false, cond, not, eqb, ltb, ◌&&◌, ◌||◌}
use Rattle.std.proofs.Common.{List, [], ◌∷◌, ◌++◌, length, Option, Some, None, Result, Ok, Err, refl, sym}
use Rattle.std.proofs.Common.{ap, ◌∙◌, subst, arith}
use Rattle.std.specs.Borrow.{Bor}
use Rattle.std.specs.List.{list_all, list_any, filter}
use Rattle.std.specs.Prelude.{is_some}
use Rattle.std.proofs.lemmas.Bool.{lt-ltb}
use Rattle.std.proofs.lemmas.List.{append-nil}
use Rattle.td_text.specs.Lines.{on_ok, pieces_of, pieces_left, text_left}
use Rattle.td_relation.specs.declared.relation_fault.RelationFault.{RelationFault}
use Rattle.td_relation.specs.declared.relation_fault.RelationFault.TheVariants.{BadName}
use Rattle.td_relation.specs.declared.relation_fault.RelationFault.TheVariants.{BadOperator}
use Rattle.td_relation.specs.declared.relation_fault.RelationFault.TheVariants.{BadVersion}
use Rattle.td_relation.specs.declared.relation_fault.RelationFault.TheVariants.{BadArchList}
use Rattle.td_relation.specs.declared.relation_fault.RelationFault.TheVariants.{BadProfile, Empty}
use Rattle.td_relation.specs.declared.relation_fault.RelationFault.TheVariants.{NoMemory}
use Rattle.td_text.specs.Cut.{Without}
use Rattle.td_text.proofs.Cut.{Without-left, Without-right}
use Rattle.td_text.specs.Words.{is_arch}
use Rattle.td_relation.specs.ArchList.{is_negated, bare}
use Rattle.td_relation.specs.RelationGrammar.{over, is_negated_word, is_arch_list, is_profile}
use Rattle.td_relation.specs.RelationGrammar.{is_profile_list}
use Rattle.td_relation.specs.RelationViews.{IsFaultOf}

-- ---- a reading over pieces

module _ {S : Type 0} (step : S → List ℕ → Result S RelationFault) where
  -- what is left of a text begins with its next piece
  pub taken : (c : ℕ) (seen : S) (o : Option (Bor (List ℕ))) (t : Bor (List ℕ)) (piece : List ℕ)
      (after : List (List ℕ)) (total : Result S RelationFault)
      → o ≡ Some t → pieces_of c t.now ≡ piece ∷ after → over step seen (pieces_left c o) ≡ total
      → over step seen (piece ∷ after) ≡ total
  taken c seen o t piece after total is cut h =
      sym (ap (over step seen) (ap (pieces_left c) is ∙ cut)) ∙ h

  -- a step that read its piece
  pub stepped : (seen more : S) (piece : List ℕ) (after : List (List ℕ))
      (total : Result S RelationFault)
      → step seen piece ≡ Ok more → over step seen (piece ∷ after) ≡ total
      → over step more after ≡ total
  unfolding over
  stepped seen more piece after total is h = sym (rw is refl) ∙ h

  -- a step with a fault
  pub fails : (seen : S) (piece : List ℕ) (after : List (List ℕ)) (total : Result S RelationFault)
      (e : RelationFault)
      → step seen piece ≡ Err e → over step seen (piece ∷ after) ≡ total → total ≡ Err e
  unfolding over
  fails seen piece after total e is h = sym h ∙ rw is refl

  -- no piece is left
  pub ends : (c : ℕ) (seen : S) (o : Option (Bor (List ℕ))) (total : Result S RelationFault)
      → o ≡ None → over step seen (pieces_left c o) ≡ total → total ≡ Ok seen
  unfolding over
  ends c seen None total is h = sym h
  ends c seen (Some t) total is h = absurd cc

  -- a fault at a piece is that of the whole
  pub faulted : (e : RelationFault) (seen : S) (piece : List ℕ) (after : List (List ℕ))
      (total : Result S RelationFault)
      → IsFaultOf (step seen piece) e → over step seen (piece ∷ after) ≡ total → IsFaultOf total e
  faulted BadName seen piece after total is h = fails seen piece after total BadName is h
  faulted BadOperator seen piece after total is h = fails seen piece after total BadOperator is h
  faulted BadVersion seen piece after total is h = fails seen piece after total BadVersion is h
  faulted BadArchList seen piece after total is h = fails seen piece after total BadArchList is h
  faulted BadProfile seen piece after total is h = fails seen piece after total BadProfile is h
  faulted Empty seen piece after total is h = fails seen piece after total Empty is h
  faulted NoMemory seen piece after total is h = tt

  -- one piece alone
  pub over_one : (seen more : S) (piece : List ℕ) → step seen piece ≡ Ok more
      → over step seen (piece ∷ []) ≡ Ok more
  unfolding over
  over_one seen more piece is = rw is refl

-- ---- what a text lacks, its pieces lack

-- what is left of a text has no byte c
abbrev pub LeftLacks : ℕ → Option (Bor (List ℕ)) → Type 0
LeftLacks c None = Unit {0}
LeftLacks c (Some rest) = Without c rest.now

pub pieces_lack : (c mark : ℕ) (t piece : List ℕ) (o : Option (Bor (List ℕ)))
    → t ≡ piece ++ text_left mark o → Without c t → Without c piece × LeftLacks c o
pieces_lack c mark t piece None joined none =
    (Without-left c piece [] (subst (Without c) joined none), tt)
pieces_lack c mark t piece (Some rest) joined none =
    let w = subst (Without c) joined none in
    (Without-left c piece (mark ∷ rest.now) w, (Without-right c piece (mark ∷ rest.now) w).1)

-- where nothing is left behind its first piece, a text lacks the mark, and only there
pub lacks_by_left : (mark : ℕ) (t piece : List ℕ) (o : Option (Bor (List ℕ))) (some : Bool)
    → t ≡ piece ++ text_left mark o → Without mark piece → some ≡ is_some o → some ≡ false
    → Without mark t
lacks_by_left mark t piece None some joined none is out =
    subst (Without mark) (sym (joined ∙ append-nil piece)) none
lacks_by_left mark t piece (Some rest) some joined none is out =
    absurd (let bad : true ≡ false = sym is ∙ out in cc)

pub left_by_lacks : (mark : ℕ) (t piece : List ℕ) (o : Option (Bor (List ℕ))) (some : Bool)
    → t ≡ piece ++ text_left mark o → some ≡ is_some o → Without mark t → some ≡ false
left_by_lacks mark t piece None some joined is none = is
left_by_lacks mark t piece (Some rest) some joined is none =
    absurd ((Without-right mark piece (mark ∷ rest.now) (subst (Without mark) joined none)).0 refl)

-- a fault of a part is that of what goes on from it
pub faulted_first : {A B : Type 0} (e : RelationFault) (r : Result A RelationFault)
    (f : A → Result B RelationFault) → IsFaultOf r e → IsFaultOf (on_ok r f) e
faulted_first BadName r f is = ap (λ x. on_ok x f) is
faulted_first BadOperator r f is = ap (λ x. on_ok x f) is
faulted_first BadVersion r f is = ap (λ x. on_ok x f) is
faulted_first BadArchList r f is = ap (λ x. on_ok x f) is
faulted_first BadProfile r f is = ap (λ x. on_ok x f) is
faulted_first Empty r f is = ap (λ x. on_ok x f) is
faulted_first NoMemory r f is = tt

-- a fault of an equal reading
pub faulted_same : {A : Type 0} (e : RelationFault) (r s : Result A RelationFault) → r ≡ s
    → IsFaultOf r e → IsFaultOf s e
faulted_same e r s same is = subst (λ x. IsFaultOf x e) same is

-- ---- tests of the filled pieces

pub list_all-filter : {A : Type 0} (skip test : A → Bool) (xs : List A)
    → list_all test (filter (λ x. not (skip x)) xs) ≡ list_all (λ x. skip x || test x) xs
list_all-filter skip test [] = refl
list_all-filter skip test (x ∷ xs) = by (skip x) (list_all-filter skip test xs)
  where
    by : (b : Bool)
        → list_all test (filter (λ y. not (skip y)) xs) ≡ list_all (λ y. skip y || test y) xs
        → list_all test (cond (not b) (x ∷ filter (λ y. not (skip y)) xs)
        (filter (λ y. not (skip y)) xs)) ≡ ((b || test x) && list_all (λ y. skip y || test y) xs)
    by true h = h
    by false h = ap (λ (b : Bool). test x && b) h

pub some_filled : {A : Type 0} (keep : A → Bool) (xs : List A)
    → list_any keep xs ≡ ltb 0 (length (filter keep xs))
some_filled keep [] = refl
some_filled keep (x ∷ xs) = by (keep x) (some_filled keep xs)
  where
    by : (b : Bool) → list_any keep xs ≡ ltb 0 (length (filter keep xs))
        → (b || list_any keep xs) ≡ ltb 0 (length (cond b (x ∷ filter keep xs) (filter keep xs)))
    by true h = sym (lt-ltb 0 (suc (length (filter keep xs))) (omega arith))
    by false h = h

-- ---- what the tests of the pieces say of the words

abbrev pub blank_word : List ℕ → Bool
blank_word w = eqb (length w) 0

abbrev pub filled_words : List (List ℕ) → List (List ℕ)
filled_words pieces = filter (λ w. not (blank_word w)) pieces

pub is_arch_list-by : (pieces : List (List ℕ)) (some plain negated : Bool)
    → some ≡ list_any (λ w. not (blank_word w)) pieces
    → plain ≡ list_all (λ w. blank_word w || is_arch w) pieces
    → negated ≡ list_all (λ w. blank_word w || is_negated_word is_arch w) pieces
    → (some && (plain || negated)) ≡ is_arch_list (filled_words pieces)
is_arch_list-by pieces some plain negated a b d =
    let x = a ∙ some_filled (λ w. not (blank_word w)) pieces in
    let y = b ∙ sym (list_all-filter blank_word is_arch pieces) in
    let z = d ∙ sym (list_all-filter blank_word (is_negated_word is_arch) pieces) in
    ap (λ (q : Bool). q && (plain || negated)) x
    ∙ ap (λ (q : Bool). ltb 0 (length (filled_words pieces)) && (q || negated)) y
    ∙ ap (λ (q : Bool).
    ltb 0 (length (filled_words pieces)) && (list_all is_arch (filled_words pieces) || q)) z

pub is_profile_list-by : (pieces : List (List ℕ)) (some profiles : Bool)
    → some ≡ list_any (λ w. not (blank_word w)) pieces → profiles ≡ list_all (λ w. blank_word w
    || is_profile (bare w)) pieces → (some && profiles) ≡ is_profile_list (filled_words pieces)
is_profile_list-by pieces some profiles a b =
    let x = a ∙ some_filled (λ w. not (blank_word w)) pieces in
    let y = b ∙ sym (list_all-filter blank_word (λ w. is_profile (bare w)) pieces) in
    ap (λ (q : Bool). q && profiles) x
    ∙ ap (λ (q : Bool). ltb 0 (length (filled_words pieces)) && q) y

pub unprofiled-by : (pieces : List (List ℕ)) (all : Bool) → all ≡ list_all
    (λ w. blank_word w || is_negated w) pieces → all ≡ list_all is_negated (filled_words pieces)
unprofiled-by pieces all a = a ∙ sym (list_all-filter blank_word is_negated pieces)
