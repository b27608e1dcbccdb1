-- Lists that are seen through a view, and texts one after another.
use Rattle.std.proofs.Common.{◌≡◌, ℕ, ◌+◌, Bool, true, false, cond, not, eqb, ◌&&◌, List, [], ◌∷◌}
use Rattle.std.proofs.Common.{◌++◌, map, length, take, drop, refl, sym, ap, ◌∙◌}
use Rattle.std.specs.List.{position, prefix_len}
use Rattle.std.specs.Str.{bytes_eq}
use Rattle.std.proofs.lemmas.List.{length-map}
use Rattle.std.proofs.Math.Bool.{and_assoc}

-- a text is two texts where its front is the one and what follows is the other
pub bytes_eq-append : (word front back : List ℕ) → bytes_eq word (front ++ back)
    ≡ (bytes_eq (take (length front) word) front && bytes_eq (drop (length front) word) back)
bytes_eq-append word [] back = refl
bytes_eq-append [] (x ∷ front) back = refl
bytes_eq-append (y ∷ word) (x ∷ front) back =
    ap (λ (b : Bool). eqb y x && b) (bytes_eq-append word front back)
    ∙ sym (and_assoc (eqb y x) (bytes_eq (take (length front) word) front)
    (bytes_eq (drop (length front) word) back))

-- ---- lists through a view

prefix_len-map : {A B : Type 0} (test : B → Bool) (view : A → B) (xs : List A)
    → prefix_len test (map view xs) ≡ prefix_len (λ x. test (view x)) xs
prefix_len-map test view [] = refl
prefix_len-map test view (x ∷ xs) =
    ap (λ (n : ℕ). cond (test (view x)) (1 + n) 0) (prefix_len-map test view xs)

pub position-map : {A B : Type 0} (test : B → Bool) (view : A → B) (xs : List A)
    → position test (map view xs) ≡ position (λ x. test (view x)) xs
position-map test view xs = rw (prefix_len-map (λ x. not (test x)) view xs, length-map xs view) refl

-- ---- a text behind a front that is taken off

pub joined_some : (word front back rest : List ℕ) → bytes_eq (take (length front) word) front ≡ true
    → rest ≡ drop (length front) word → bytes_eq rest back ≡ bytes_eq word (front ++ back)
joined_some word front back rest h is = sym (bytes_eq-append word front back ∙ rw (h, ← is) refl)

pub joined_none : (word front back : List ℕ) → bytes_eq (take (length front) word) front ≡ false
    → false ≡ bytes_eq word (front ++ back)
joined_none word front back h = sym (bytes_eq-append word front back ∙ rw h refl)
