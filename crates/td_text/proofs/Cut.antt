-- A text that is cut at a byte.
use Rattle.std.proofs.Common.{◌≡◌, ◌≢◌, ℕ, suc, ◌<◌, Bool, true, false, not, eqb, All, List, []}
use Rattle.std.proofs.Common.{◌∷◌, ◌++◌, length, get_or, take, drop, Option, Some, None, ◌+◌}
use Rattle.std.proofs.Common.{refl, sym, ap, subst, ◌∙◌, arith, inl, inr, one-add}
use Rattle.std.specs.List.{list_all, position_or_len, slice_split, AllByRecursion}
use Rattle.std.specs.Str.{IsCharBoundary, IsUtf8}
use Rattle.std.proofs.lemmas.Bool.{eq-eqb, ne_eqb, and_parts}
use Rattle.std.proofs.lemmas.Bool.Decides.{eqb_tells}
use Rattle.std.proofs.lemmas.List.{append-nil}
use Rattle.std.proofs.lemmas.List.Elements.{All-from_recursion}
use Rattle.std.proofs.lemmas.List.Splits.{slice_split_at, slice_split_none}
use Rattle.std.proofs.lemmas.List.Sums.{prefix_len-le-length, prefix_len_passes, prefix_len_stops}
use Rattle.std.proofs.lemmas.List.Sums.{split_at_first}
use Rattle.std.proofs.lemmas.Str.{IsCharBoundary-end, IsCharBoundary-before_ascii}
use Rattle.std.proofs.lemmas.Str.{IsCharBoundary-after_ascii}
use Rattle.td_text.specs.Chain.{◌>>=◌}
use Rattle.td_text.specs.Cut.{Without, cut, part}
use Rattle.td_text.specs.Exact.{Exact}
use Rattle.td_text.proofs.Chain.{chained, some_is}

-- where a text first has a byte, or its length
abbrev pub place_of : ℕ → List ℕ → ℕ
place_of c t = position_or_len (λ b. eqb b c) t

-- ---- texts without a byte

pub Without-from_index : (c : ℕ) (t : List ℕ) → ((i : ℕ) → i < length t → get_or t i 0 ≢ c)
    → Without c t
Without-from_index c [] h = tt
Without-from_index c (x ∷ t) h =
    (h 0 (omega arith), Without-from_index c t (λ i lt. h (suc i) (omega arith)))

pub Without-append : (c : ℕ) (a b : List ℕ) → Without c a → Without c b → Without c (a ++ b)
Without-append c [] b v w = w
Without-append c (x ∷ a) b v w = (v.0, Without-append c a b v.1 w)

pub Without-left : (c : ℕ) (a b : List ℕ) → Without c (a ++ b) → Without c a
Without-left c [] b w = tt
Without-left c (x ∷ a) b w = (w.0, Without-left c a b w.1)

pub Without-right : (c : ℕ) (a b : List ℕ) → Without c (a ++ b) → Without c b
Without-right c [] b w = w
Without-right c (x ∷ a) b w = Without-right c a b w.1

-- for a literal the test computes
pub lacks : (c : ℕ) (t : List ℕ) → list_all (λ x. not (eqb x c)) t ≡ true → Without c t
lacks c [] h = tt
lacks c (x ∷ t) h =
    elim (eqb_tells x c) [
      | inl is ↦ absurd (let bad : false ≡ true = sym (rw is.0 refl) ∙ h in cc)
      | inr other ↦
          (other.1, lacks c t (and_parts (not (eqb x c)) (list_all (λ y. not (eqb y c)) t) h).1)
    ]

-- where each byte passes a test that c doesn't
pub Without-from_test : (test : ℕ → Bool) (c : ℕ) (t : List ℕ) → test c ≡ false
    → list_all test t ≡ true → Without c t
Without-from_test test c [] out h = tt
Without-from_test test c (x ∷ t) out h =
    let p = and_parts (test x) (list_all test t) h in (
      λ e. (let bad : false ≡ true = sym out ∙ ap test (sym e) ∙ p.0 in cc),
      Without-from_test test c t out p.1,
    )

tests : (c : ℕ) (t : List ℕ) → Without c t → AllByRecursion (λ b. eqb b c ≡ false) t
tests c [] w = tt
tests c (x ∷ t) w = (ne_eqb x c w.0, tests c t w.1)

-- the test that no byte of a text without c passes
pub none_is : (c : ℕ) (t : List ℕ) → Without c t → All (λ b. eqb b c ≡ false) t
none_is c t w = All-from_recursion (λ b. eqb b c ≡ false) t (tests c t w)

-- ---- the text before a byte, and after it

pub cut-at : (c : ℕ) (a b : List ℕ) → Without c a → cut c (a ++ c ∷ b) ≡ Some (a, b)
unfolding cut
cut-at c [] b w = rw (eq-eqb c c refl) refl
cut-at c (x ∷ a) b w = rw (ne_eqb x c w.0, cut-at c a b w.1) refl

pub cut_none : (c : ℕ) (t : List ℕ) → Without c t → cut c t ≡ None
unfolding cut
cut_none c [] w = refl
cut_none c (x ∷ t) w = rw (ne_eqb x c w.0, cut_none c t w.1) refl

pub cut_found : (c : ℕ) (t : List ℕ) (p : List ℕ × List ℕ) → cut c t ≡ Some p
    → (t ≡ p.0 ++ c ∷ p.1) × Without c p.0
unfolding cut
cut_found c [] p e = absurd cc
cut_found c (x ∷ t) p e =
    elim (eqb_tells x c) [
      | inl is ↦
          let q : Some ([], t) ≡ Some p = sym (rw is.0 refl) ∙ e in
          subst (λ (y : List ℕ × List ℕ). (x ∷ t ≡ y.0 ++ c ∷ y.1) × Without c y.0) (some_is _ _ q)
          (ap (λ (b : ℕ). b ∷ t) is.1, tt)
      | inr not ↦
          let q : (cut c t >>= λ y. Some (x ∷ y.0, y.1)) ≡ Some p = sym (rw not.0 refl) ∙ e in
          let a = chained (cut c t) (λ y. Some (x ∷ y.0, y.1)) p q in
          let h = cut_found c t a.0 a.1 in
          subst (λ (y : List ℕ × List ℕ). (x ∷ t ≡ y.0 ++ c ∷ y.1) × Without c y.0)
          (some_is _ _ a.2) (ap (λ (l : List ℕ). x ∷ l) h.0, (not.1, h.1))
    ]

-- a word that was cut off and read
pub word_found : {V : Type 0} (c : ℕ) (read : List ℕ → Option V) (spell : V → List ℕ)
    (Fits : V → Type 0) → Exact read spell Fits → (t : List ℕ) (p : List ℕ × List ℕ) (v : V)
    → cut c t ≡ Some p → read p.0 ≡ Some v → (t ≡ spell v ++ c ∷ p.1) × Fits v
word_found c read spell Fits exact t p v is r =
    let f = exact.found p.0 v r in
    ((cut_found c t p is).0 ∙ ap (λ (l : List ℕ). l ++ c ∷ p.1) f.0, f.1)

-- ---- the text before a byte, and from there on

pub part_first : (c : ℕ) (a b : List ℕ) → Without c a → part c (a ++ c ∷ b) ≡ (a, c ∷ b)
unfolding part
part_first c [] b w = rw (eq-eqb c c refl) refl
part_first c (x ∷ a) b w = rw (ne_eqb x c w.0, part_first c a b w.1) refl

pub part_none : (c : ℕ) (t : List ℕ) → Without c t → part c t ≡ (t, [])
unfolding part
part_none c [] w = refl
part_none c (x ∷ t) w = rw (ne_eqb x c w.0, part_none c t w.1) refl

pub part_joined : (c : ℕ) (t : List ℕ) → t ≡ (part c t).0 ++ (part c t).1
unfolding part
part_joined c [] = refl
part_joined c (x ∷ t) =
    elim (eqb_tells x c) [
      | inl is ↦ rw is.0 refl
      | inr other ↦ rw other.0 (ap (λ (l : List ℕ). x ∷ l) (part_joined c t))
    ]

pub part_lacks : (c : ℕ) (t : List ℕ) → Without c (part c t).0
unfolding part
part_lacks c [] = tt
part_lacks c (x ∷ t) =
    elim (eqb_tells x c) [
      | inl is ↦ rw is.0 tt
      | inr other ↦ rw other.0 (other.1, part_lacks c t)
    ]

pub part_front : (c : ℕ) (t a b : List ℕ) → (a, b) ≡ part c t → Without c a
part_front c t a b is = subst (λ (p : List ℕ × List ℕ). Without c p.0) (sym is) (part_lacks c t)

-- what is empty or begins with the byte
abbrev pub Begins : ℕ → List ℕ → Type 0
Begins c [] = Unit {0}
Begins c (x ∷ t) = x ≡ c

pub part_begins : (c : ℕ) (t : List ℕ) → Begins c (part c t).1
unfolding part
part_begins c [] = tt
part_begins c (x ∷ t) =
    elim (eqb_tells x c) [
      | inl is ↦ rw is.0 is.1
      | inr other ↦ rw other.0 (part_begins c t)
    ]

pub part_again : (c : ℕ) (a b : List ℕ) → Without c a → Begins c b → part c (a ++ b) ≡ (a, b)
part_again c a [] w h = rw append-nil (part_none c a w)
part_again c a (x ∷ b) w h = rw h (part_first c a b w)

-- ---- by the place of the first such byte

-- where the text parts
pub part-by_place : (c : ℕ) (t : List ℕ)
    → (take (place_of c t) t, drop (place_of c t) t) ≡ part c t
unfolding part
part-by_place c [] = refl
part-by_place c (x ∷ t) =
    elim (eqb_tells x c) [
      | inl is ↦ rw is.0 refl
      | inr other ↦
          rw (other.0, one-add)
          (ap (λ (p : List ℕ × List ℕ). (x ∷ p.0, p.1)) (part-by_place c t))
    ]

pub place_lacks : (c : ℕ) (t : List ℕ) → Without c (take (place_of c t) t)
place_lacks c t = part_front c t _ _ (part-by_place c t)

-- the byte is there ..
pub place_has : (c : ℕ) (t : List ℕ) → place_of c t < length t → get_or t (place_of c t) 0 ≡ c
place_has c t some =
    let stops = prefix_len_stops (λ b. not (eqb b c)) t 0 some in
    elim (eqb_tells (get_or t (place_of c t) 0) c) [
      | inl is ↦ is.1
      | inr other ↦ absurd (let bad : not false ≡ false = ap not (sym other.0) ∙ stops in cc)
    ]

-- .. or nowhere
pub place_none : (c : ℕ) (t : List ℕ) → place_of c t ≡ length t → Without c t
place_none c t all =
    Without-from_index c t (λ i lt.
    let passes = prefix_len_passes (λ b. not (eqb b c)) t i 0 (omega (arith, all, lt)) in
    λ is. (let same : eqb (get_or t i 0) c ≡ true = eq-eqb (get_or t i 0) c is in
    let bad : not true ≡ true = ap not (sym same) ∙ passes in cc))

-- a text may be cut before an ASCII character, and behind it
pub place_boundary : (c : ℕ) (t : List ℕ) → c < 128 → IsCharBoundary t (place_of c t)
place_boundary c t small =
    elim (eqb_tells (place_of c t) (length t)) [
      | inl is ↦ subst (IsCharBoundary t) (sym is.1) (IsCharBoundary-end t)
      | inr other ↦
          (let apart = other.1 in
          let less : place_of c t < length t =
          omega (arith, prefix_len-le-length (λ b. not (eqb b c)) t) in
          IsCharBoundary-before_ascii t (place_of c t) less
          (subst (λ b. b < 128) (sym (place_has c t less)) small))
    ]

pub behind_boundary : (c : ℕ) (t : List ℕ) → c < 128 → IsUtf8 t → place_of c t < length t
    → IsCharBoundary t (place_of c t + 1)
behind_boundary c t small utf8 less =
    IsCharBoundary-after_ascii t (place_of c t) utf8 less
    (subst (λ b. b < 128) (sym (place_has c t less)) small)

-- the text before it, and after it
pub place_cut : (c : ℕ) (t : List ℕ) → place_of c t < length t
    → (t ≡ take (place_of c t) t ++ c ∷ drop (place_of c t + 1) t)
    × Without c (take (place_of c t) t)
place_cut c t less = (
  split_at_first (λ b. eqb b c) t 0 less
      ∙ ap (λ (b : ℕ). take (place_of c t) t ++ b ∷ drop (place_of c t + 1) t)
      (place_has c t less),
  place_lacks c t,
)

pub cut-by_place : (c : ℕ) (t : List ℕ) → place_of c t < length t
    → cut c t ≡ Some (take (place_of c t) t, drop (place_of c t + 1) t)
cut-by_place c t less =
    let p = place_cut c t less in
    ap (cut c) p.0 ∙ cut-at c (take (place_of c t) t) (drop (place_of c t + 1) t) p.1

-- ---- the pieces between such bytes

pub pieces-cons : (c : ℕ) (a b : List ℕ) → Without c a
    → slice_split (λ x. eqb x c) (a ++ c ∷ b) ≡ a ∷ slice_split (λ x. eqb x c) b
pieces-cons c a b w = slice_split_at (λ x. eqb x c) a c b (none_is c a w) (eq-eqb c c refl)

pub pieces-one : (c : ℕ) (a : List ℕ) → Without c a → slice_split (λ x. eqb x c) a ≡ a ∷ []
pieces-one c a w = slice_split_none (λ x. eqb x c) a (none_is c a w)
