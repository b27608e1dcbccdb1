-- Words with any whitespace around them are read.
use Rattle.std.proofs.Common.{◌≡◌, ◌≢◌, ℕ, Bool, true, false, List, [], ◌∷◌, ◌++◌}
use Rattle.std.proofs.Common.{map, refl, sym, ap, subst, ◌∙◌, append-nil}
use Rattle.std.specs.Prelude.{IsTrue}
use Rattle.std.specs.List.{list_all, AllByRecursion}
use Rattle.std.proofs.lemmas.Bool.{and_parts, and_from}
use Rattle.std.proofs.lemmas.List.Elements.{All-from_recursion}
use Rattle.std.proofs.lemmas.List.Splits.{slice_split_at, slice_split_none}
use Rattle.td_text.specs.Cut.{Without}
use Rattle.td_text.specs.Words.{is_arch_byte, is_arch}
use Rattle.td_text.proofs.Cut.{Without-append, Without-from_test}
use Rattle.td_text.proofs.Words.{Without-arch}
use Rattle.td_text.specs.Runs.{is_space, is_blank}
use Rattle.td_relation.specs.ArchList.{words}
use Rattle.td_relation.specs.RelationWriting.{WrittenProfile, marked, profile_text, is_profile_byte}
use Rattle.td_relation.specs.RelationWriting.{is_profile_name, ProfilesFit}
use Rattle.td_relation.specs.Spacing.{AreWords, EndsAWord}
use Rattle.td_relation.proofs.WordTexts.{all-map, arch_no_space, filled, IsWord, IsWord-marked}
use Rattle.td_relation.proofs.WordTexts.{profile_no_space, Without-marked}

-- whitespace has no words ..
pub words_blank : (t : List ℕ) → is_blank t ≡ true → words t ≡ []
words_blank [] h = refl
words_blank (x ∷ t) h =
    let p = and_parts (is_space x) (list_all is_space t) h in
    ap filled (slice_split_at is_space [] x t (All-from_recursion (λ b. is_space b ≡ false) [] tt)
    p.0) ∙ words_blank t p.1

-- .. and adds none to what follows it
pub words_behind : (s t : List ℕ) → is_blank s ≡ true → words (s ++ t) ≡ words t
words_behind [] t h = refl
words_behind (x ∷ s) t h =
    let p = and_parts (is_space x) (list_all is_space s) h in
    ap filled (slice_split_at is_space [] x (s ++ t)
    (All-from_recursion (λ b. is_space b ≡ false) [] tt) p.0) ∙ words_behind s t p.1

-- the first word, and what follows it
pub first_word : (w rest : List ℕ) → IsWord w → EndsAWord rest → words (w ++ rest) ≡ w ∷ words rest
first_word w [] h ends =
    let some = h.filled in
    ap words (append-nil w)
    ∙ ap filled (slice_split_none is_space w
    (All-from_recursion (λ b. is_space b ≡ false) w h.plain)) ∙ rw some refl
first_word w (x ∷ rest) h ends =
    let some = h.filled in
    ap filled (slice_split_at is_space w x rest
    (All-from_recursion (λ b. is_space b ≡ false) w h.plain) ends)
    ∙ rw some (ap (λ (l : List (List ℕ)). w ∷ l)
    (sym (words_behind (x ∷ []) rest (and_from (is_space x) true ends refl))))

pub words_are : (ws : List (List ℕ)) (text : List ℕ) → AllByRecursion IsWord ws → AreWords ws text
    → words text ≡ ws
words_are [] text h is = words_blank text is
words_are (w ∷ ws) text h (space, rest, joined, blank, ends, more) =
    ap words joined ∙ words_behind space (w ++ rest) blank ∙ first_word w rest h.0 ends
    ∙ ap (λ (l : List (List ℕ)). w ∷ l) (words_are ws rest h.1 more)

-- a byte that neither the words nor whitespace have
pub Without-words : (c : ℕ) (ws : List (List ℕ)) (text : List ℕ) → is_space c ≡ false
    → AllByRecursion (λ w. Without c w) ws → AreWords ws text → Without c text
Without-words c [] text out h is = Without-from_test is_space c text out is
Without-words c (w ∷ ws) text out h (space, rest, joined, blank, ends, more) =
    subst (Without c) (sym joined)
    (Without-append c space (w ++ rest) (Without-from_test is_space c space out blank)
    (Without-append c w rest h.0 (Without-words c ws rest out h.1 more)))

-- ---- the words of lists

over_map : {A B : Type 0} (P : B → Type 0) (f : A → B) (xs : List A)
    → AllByRecursion (λ x. P (f x)) xs → AllByRecursion P (map f xs)
over_map P f [] h = tt
over_map P f (x ∷ xs) h = (h.0, over_map P f xs h.1)

pub arch_words : (m : Bool) (ns : List (List ℕ)) (text : List ℕ) → AllByRecursion (λ n.
    IsTrue (is_arch n)) ns → AreWords (map (marked m) ns) text → words text ≡ map (marked m) ns
arch_words m ns text h is =
    words_are (map (marked m) ns) text
    (over_map IsWord (marked m) ns
    (all-map (λ n. IsTrue (is_arch n)) (λ n. IsWord (marked m n))
    (λ n w. IsWord-marked is_arch_byte m n arch_no_space w) ns h)) is

pub arch_words-lack : (c : ℕ) (m : Bool) (ns : List (List ℕ)) (text : List ℕ) → is_space c ≡ false
    → is_arch_byte c ≡ false → 33 ≢ c → AllByRecursion (λ n. IsTrue (is_arch n)) ns
    → AreWords (map (marked m) ns) text → Without c text
arch_words-lack c m ns text out apart mark h is =
    Without-words c (map (marked m) ns) text out
    (over_map (Without c) (marked m) ns
    (all-map (λ n. IsTrue (is_arch n)) (λ n. Without c (marked m n))
    (λ n w. Without-marked c m n mark (Without-arch c n apart w)) ns h)) is

pub profile_words : (l : List WrittenProfile) (text : List ℕ) → ProfilesFit l
    → AreWords (map profile_text l) text → words text ≡ map profile_text l
profile_words l text h is =
    words_are (map profile_text l) text
    (over_map IsWord profile_text l
    (all-map (λ p. IsTrue (is_profile_name p.name)) (λ p. IsWord (profile_text p))
    (λ p w. IsWord-marked is_profile_byte p.negated p.name profile_no_space w) l h.1)) is

pub profile_words-lack : (c : ℕ) (l : List WrittenProfile) (text : List ℕ) → is_space c ≡ false
    → is_profile_byte c ≡ false → 33 ≢ c → ProfilesFit l → AreWords (map profile_text l) text
    → Without c text
profile_words-lack c l text out apart mark h is =
    Without-words c (map profile_text l) text out
    (over_map (Without c) profile_text l
    (all-map (λ p. IsTrue (is_profile_name p.name)) (λ p. Without c (profile_text p))
    (λ p w. Without-marked c p.negated p.name mark
    (Without-from_test is_profile_byte c p.name apart
    (and_parts _ (list_all is_profile_byte p.name) w).1)) l h.1)) is
