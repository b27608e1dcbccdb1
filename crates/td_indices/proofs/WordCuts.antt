-- A text cut at its first whitespace.
use Rattle.std.proofs.Common.{◌≡◌, ℕ, ◌+◌, ◌<◌, get_or, List, [], ◌∷◌, Some, None, length}
use Rattle.std.proofs.Common.{take, drop, position, refl, sym, ap, subst, ◌∙◌, inl, inr, arith}
use Rattle.std.specs.List.{slice_split, position_or_len}
use Rattle.std.proofs.lemmas.Bool.{cases_lt, lt-ltb, le-ltb}
use Rattle.std.proofs.lemmas.List.Splits.{slice_split_none, slice_split_first}
use Rattle.std.proofs.lemmas.List.Sums.{fails_before_first}
use Rattle.std.proofs.lemmas.List.{drop_more}
use Rattle.std.proofs.lemmas.List.Quantifiers.{position-Some}
use Rattle.std.specs.Str.{IsUtf8, IsCharBoundary}
use Rattle.std.proofs.lemmas.Str.{IsCharBoundary-after_ascii, IsUtf8-drop}
use Rattle.td_text.proofs.Chain.{some_is}
use Rattle.td_text.proofs.RunLaws.{space_is_ascii}
use Rattle.td_text.specs.Runs.{is_space}

pub word_some : (t : List ℕ) (i : ℕ) → position is_space t ≡ Some i
    → slice_split is_space t ≡ take i t ∷ slice_split is_space (drop (i + 1) t)
word_some t i h =
    elim (cases_lt (position_or_len is_space t) (length t)) [
      | inl lt ↦
          let here : position is_space t ≡ Some (position_or_len is_space t) =
          rw (lt-ltb (position_or_len is_space t) (length t) lt) refl in
          let is : position_or_len is_space t ≡ i =
          some_is (position_or_len is_space t) i (sym here ∙ h) in
          subst (λ (m : ℕ). slice_split is_space t
          ≡ take m t ∷ slice_split is_space (drop (m + 1) t)) is (slice_split_first is_space t 0 lt)
      | inr ge ↦
          let gone : position is_space t ≡ None =
          rw (le-ltb (position_or_len is_space t) (length t) ge) refl in
          absurd (let bad = sym gone ∙ h in cc)
    ]

pub word_none : (t : List ℕ) → position is_space t ≡ None → slice_split is_space t ≡ t ∷ []
word_none t h =
    elim (cases_lt (position_or_len is_space t) (length t)) [
      | inl lt ↦
          let here : position is_space t ≡ Some (position_or_len is_space t) =
          rw (lt-ltb (position_or_len is_space t) (length t) lt) refl in
          absurd (let bad = sym here ∙ h in cc)
      | inr ge ↦
          slice_split_none is_space t (λ k d low. fails_before_first is_space t k d (omega arith))
    ]

-- the text before the first whitespace character, and what follows that
pub word_cut : (t word rest after : List ℕ) (i : ℕ) → position is_space t ≡ Some i → word ≡ take i t
    → rest ≡ drop i t → after ≡ drop 1 rest
    → slice_split is_space t ≡ word ∷ slice_split is_space after
word_cut t word rest after i h front back behind =
    let p = position-Some is_space t i 0 h in
    let tail : after ≡ drop (i + 1) t =
    behind ∙ ap (λ (l : List ℕ). drop 1 l) (back ∙ drop_more t i 0 p.0) in
    word_some t i h ∙ (λ j. sym front j ∷ slice_split is_space (sym tail j))

-- a text may be cut before its first whitespace character ..
pub boundary_here : (t : List ℕ) (i : ℕ) → position is_space t ≡ Some i → IsCharBoundary t i
boundary_here t i h =
    let p = position-Some is_space t i 0 h in
    let small = space_is_ascii (get_or t i 0) p.1 in
    let within = p.0 in
    (omega arith, λ low high. omega arith)

-- .. and behind it
pub boundary_behind : (t rest : List ℕ) (i : ℕ) → IsUtf8 t → position is_space t ≡ Some i
    → rest ≡ drop i t → IsCharBoundary rest 1
boundary_behind t rest i utf8 h back =
    let p = position-Some is_space t i 0 h in
    let small : get_or t i 0 < 128 = space_is_ascii (get_or t i 0) p.1 in
    let whole = drop_more t i 0 p.0 in
    let text : IsUtf8 (drop i t) = IsUtf8-drop t i utf8 (boundary_here t i h) in
    let first : get_or (drop i t) 0 0 < 128 = rw whole small in
    let some : 0 < length (drop i t) = rw whole (omega arith) in
    subst (λ (l : List ℕ). IsCharBoundary l 1) (sym back)
    (IsCharBoundary-after_ascii (drop i t) 0 text some first)
