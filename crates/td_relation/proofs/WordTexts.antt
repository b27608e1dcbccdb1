-- Words that are written with a space between them are read again.
use Rattle.std.proofs.Common.{◌≡◌, ◌≢◌, ℕ, Bool, true, false, not, eqb, ltb, ◌&&◌, ◌||◌, List, []}
use Rattle.std.proofs.Common.{◌∷◌, ◌++◌, length, map, refl, ap, ◌∙◌, append-nil, arith}
use Rattle.std.specs.Prelude.{codes, IsTrue}
use Rattle.std.specs.List.{list_all, filter, flat_map, join_by, AllByRecursion}
use Rattle.std.proofs.lemmas.Bool.{and_parts, and_from, ne_eqb, ltb-true, lt-ltb, or_left, or_right}
use Rattle.std.proofs.lemmas.List.Elements.{All-from_recursion}
use Rattle.std.proofs.lemmas.List.Splits.{slice_split_at, slice_split_none}
use Rattle.td_text.specs.Cut.{Without}
use Rattle.td_text.specs.Words.{is_arch_byte, is_arch, is_name_byte}
use Rattle.td_text.proofs.Cut.{Without-append}
use Rattle.td_text.specs.Runs.{is_space}
use Rattle.td_relation.specs.ArchList.{words, is_negated, bare}
use Rattle.td_relation.specs.RelationGrammar.{is_negated_word, is_arch_list, is_profile}
use Rattle.td_relation.specs.RelationGrammar.{is_profile_list, holds_unprofiled}
use Rattle.td_relation.specs.RelationWriting.{WrittenProfile, marked, profile_text, is_profile_byte}
use Rattle.td_relation.specs.RelationWriting.{is_profile_name, ProfilesFit}
use Rattle.td_text.proofs.RunTexts.{NoSpace, not_space, misses}

-- ---- lists of texts

-- what holds of each
pub all-map : {X : Type 0} (P Q : X → Type 0) → ((x : X) → P x → Q x) → (xs : List X)
    → AllByRecursion P xs → AllByRecursion Q xs
all-map P Q f [] h = tt
all-map P Q f (x ∷ xs) h = (f x h.0, all-map P Q f xs h.1)

pub Without-flat_map : {X : Type 0} (c : ℕ) (f : X → List ℕ) (xs : List X)
    → AllByRecursion (λ x. Without c (f x)) xs → Without c (flat_map f xs)
Without-flat_map c f [] h = tt
Without-flat_map c f (x ∷ xs) h =
    Without-append c (f x) (flat_map f xs) h.0 (Without-flat_map c f xs h.1)

pub Without-join : {X : Type 0} (c : ℕ) (f : X → List ℕ) (between : List ℕ) (xs : List X)
    → Without c between → AllByRecursion (λ x. Without c (f x)) xs
    → Without c (join_by f between xs)
Without-join c f between [] out h = tt
Without-join c f between (x ∷ xs) out h =
    Without-append c (f x) (flat_map (λ y. between ++ f y) xs) h.0
    (Without-flat_map c (λ y. between ++ f y) xs
    (all-map (λ y. Without c (f y)) (λ y. Without c (between ++ f y))
    (λ y w. Without-append c between (f y) out w) xs h.1))

-- ---- words

-- one byte or more, and no whitespace
pub record IsWord (w : List ℕ) : Type 0 where
  pub filled : eqb (length w) 0 ≡ false
  pub plain : AllByRecursion (λ b. is_space b ≡ false) w

plain_by : (test : ℕ → Bool) (w : List ℕ) → NoSpace test → list_all test w ≡ true
    → AllByRecursion (λ b. is_space b ≡ false) w
plain_by test [] lacks h = tt
plain_by test (x ∷ w) lacks h =
    let p = and_parts (test x) (list_all test w) h in
    (not_space test x lacks p.0, plain_by test w lacks p.1)

pub IsWord-marked : (test : ℕ → Bool) (m : Bool) (w : List ℕ) → NoSpace test
    → (ltb 0 (length w) && list_all test w) ≡ true → IsWord (marked m w)
IsWord-marked test true w lacks h =
    let p = and_parts (ltb 0 (length w)) (list_all test w) h in
    record {
      filled = ne_eqb (length (33 ∷ w)) 0 (λ e. omega arith);
      plain = (refl, plain_by test w lacks p.1);
    }
IsWord-marked test false w lacks h =
    let p = and_parts (ltb 0 (length w)) (list_all test w) h in
    let some = ltb-true 0 (length w) p.0 in
    record { filled = ne_eqb (length w) 0 (λ e. omega arith); plain = plain_by test w lacks p.1 }

abbrev pub filled : List (List ℕ) → List (List ℕ)
filled pieces = filter (λ w. not (eqb (length w) 0)) pieces

pub words_again : {X : Type 0} (f : X → List ℕ) (x : X) (xs : List X) → IsWord (f x)
    → AllByRecursion (λ y. IsWord (f y)) xs
    → words (join_by f (codes " ") (x ∷ xs)) ≡ map f (x ∷ xs)
words_again f x [] h hs =
    let some = h.filled in
    ap words (append-nil (f x))
    ∙ ap filled (slice_split_none is_space (f x)
    (All-from_recursion (λ b. is_space b ≡ false) (f x) h.plain)) ∙ rw some refl
words_again f x (y ∷ ys) h hs =
    let some = h.filled in
    ap filled (slice_split_at is_space (f x) 32 (join_by f (codes " ") (y ∷ ys))
    (All-from_recursion (λ b. is_space b ≡ false) (f x) h.plain) refl)
    ∙ rw some (ap (λ (l : List (List ℕ)). f x ∷ l) (words_again f y ys hs.0 hs.1))

pub Without-marked : (c : ℕ) (m : Bool) (w : List ℕ) → 33 ≢ c → Without c w → Without c (marked m w)
Without-marked c true w out h = (out, h)
Without-marked c false w out h = h

-- ---- bytes that are no whitespace

pub name_no_space : NoSpace is_name_byte
name_no_space = record { space = refl; tab = refl; newline = refl }

pub arch_no_space : NoSpace is_arch_byte
arch_no_space = record { space = refl; tab = refl; newline = refl }

pub profile_no_space : NoSpace is_profile_byte
profile_no_space = record { space = refl; tab = refl; newline = refl }

-- ---- architecture lists

plain_archs : (ns : List (List ℕ)) → AllByRecursion (λ n. IsTrue (is_arch n)) ns
    → list_all is_arch (map (marked false) ns) ≡ true
plain_archs [] h = refl
plain_archs (n ∷ ns) h =
    and_from (is_arch n) (list_all is_arch (map (marked false) ns)) h.0 (plain_archs ns h.1)

negated_archs : (ns : List (List ℕ)) → AllByRecursion (λ n. IsTrue (is_arch n)) ns
    → list_all (is_negated_word is_arch) (map (marked true) ns) ≡ true
negated_archs [] h = refl
negated_archs (n ∷ ns) h =
    and_from (is_arch n) (list_all (is_negated_word is_arch) (map (marked true) ns)) h.0
    (negated_archs ns h.1)

pub is_arch_list-again : (m : Bool) (ns : List (List ℕ)) → ns ≢ []
    → AllByRecursion (λ n. IsTrue (is_arch n)) ns → is_arch_list (map (marked m) ns) ≡ true
is_arch_list-again m [] some h = absurd (some refl)
is_arch_list-again true (n ∷ ns) some h =
    and_from _ _ (lt-ltb 0 (length (map (marked true) (n ∷ ns))) (omega arith))
    (or_right (list_all is_arch (map (marked true) (n ∷ ns))) _ (negated_archs (n ∷ ns) h))
is_arch_list-again false (n ∷ ns) some h =
    and_from _ _ (lt-ltb 0 (length (map (marked false) (n ∷ ns))) (omega arith))
    (or_left (list_all is_arch (map (marked false) (n ∷ ns))) _ (plain_archs (n ∷ ns) h))

pub arch_words-again : (m : Bool) (ns : List (List ℕ)) → ns ≢ [] → AllByRecursion
    (λ n. IsTrue (is_arch n)) ns → words (join_by (marked m) (codes " ") ns) ≡ map (marked m) ns
arch_words-again m [] some h = absurd (some refl)
arch_words-again m (n ∷ ns) some h =
    words_again (marked m) n ns (IsWord-marked is_arch_byte m n arch_no_space h.0)
    (all-map (λ k. IsTrue (is_arch k)) (λ k. IsWord (marked m k))
    (λ k w. IsWord-marked is_arch_byte m k arch_no_space w) ns h.1)

-- ---- profile lists

pub profile_words-again : (l : List WrittenProfile) → ProfilesFit l
    → words (join_by profile_text (codes " ") l) ≡ map profile_text l
profile_words-again [] h = absurd (h.0 refl)
profile_words-again (p ∷ l) h =
    words_again profile_text p l
    (IsWord-marked is_profile_byte p.negated p.name profile_no_space h.1.0)
    (all-map (λ q. IsTrue (is_profile_name q.name)) (λ q. IsWord (profile_text q))
    (λ q w. IsWord-marked is_profile_byte q.negated q.name profile_no_space w) l h.1.1)

-- a byte of a profile's name is one of a profile
profile_byte : (b : ℕ) → is_profile_byte b ≡ true → not (eqb b 60 || eqb b 33) ≡ true
profile_byte b h = rw (misses is_profile_byte 60 b refl h, misses is_profile_byte 33 b refl h) refl

profile_bytes : (w : List ℕ) → list_all is_profile_byte w ≡ true
    → list_all (λ b. not (eqb b 60 || eqb b 33)) w ≡ true
profile_bytes [] h = refl
profile_bytes (x ∷ w) h =
    let p = and_parts (is_profile_byte x) (list_all is_profile_byte w) h in
    and_from _ _ (profile_byte x p.0) (profile_bytes w p.1)

-- the word without its `!`, and whether it has one
bare_marked : (m : Bool) (w : List ℕ) → is_profile_name w ≡ true
    → (bare (marked m w) ≡ w) × (is_negated (marked m w) ≡ m)
bare_marked true w h = (refl, refl)
bare_marked false [] h = absurd cc
bare_marked false (x ∷ w) h =
    let p = and_parts (ltb 0 (length (x ∷ w))) (list_all is_profile_byte (x ∷ w)) h in
    let other : eqb x 33 ≡ false =
    misses is_profile_byte 33 x refl
    (and_parts (is_profile_byte x) (list_all is_profile_byte w) p.1).0 in
    (rw other refl, other)

is_profile-marked : (m : Bool) (w : List ℕ) → is_profile_name w ≡ true
    → is_profile (bare (marked m w)) ≡ true
is_profile-marked m w h =
    let p = and_parts (ltb 0 (length w)) (list_all is_profile_byte w) h in
    ap is_profile (bare_marked m w h).0 ∙ and_from _ _ p.0 (profile_bytes w p.1)

profiles_each : (l : List WrittenProfile) → AllByRecursion (λ p. IsTrue (is_profile_name p.name)) l
    → list_all (λ w. is_profile (bare w)) (map profile_text l) ≡ true
profiles_each [] h = refl
profiles_each (p ∷ l) h =
    and_from _ _ (is_profile-marked p.negated p.name h.0) (profiles_each l h.1)

pub is_profile_list-again : (l : List WrittenProfile) → ProfilesFit l
    → is_profile_list (map profile_text l) ≡ true
is_profile_list-again [] h = absurd (h.0 refl)
is_profile_list-again (p ∷ l) h =
    and_from _ _ (lt-ltb 0 (length (map profile_text (p ∷ l))) (omega arith))
    (profiles_each (p ∷ l) h.1)

negated_each : (l : List WrittenProfile) → AllByRecursion (λ p. IsTrue (is_profile_name p.name)) l
    → list_all is_negated (map profile_text l) ≡ list_all (λ p. p.negated) l
negated_each [] h = refl
negated_each (p ∷ l) h = rw ((bare_marked p.negated p.name h.0).1, negated_each l h.1) refl

pub holds-again : (l : List WrittenProfile) → ProfilesFit l
    → holds_unprofiled (map profile_text l) ≡ list_all (λ p. p.negated) l
holds-again l h = negated_each l h.1
