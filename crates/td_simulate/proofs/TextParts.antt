-- The parts of a simulation's text, line by line.
use Rattle.std.proofs.Common.{◌≡◌, ℕ, ◌+◌, ◌<◌, true, false, List, [], ◌∷◌, ◌++◌, length}
use Rattle.std.proofs.Common.{take, refl, sym, ap, ◌∙◌, append_assoc, arith}
use Rattle.std.specs.Prelude.{codes}
use Rattle.std.proofs.lemmas.Slice.Eq.{bytes_eq-Decides}
use Rattle.std.proofs.Math.Seq.{take-append_seam}
use Rattle.std.proofs.lemmas.List.{append-nil, length-append}
use Rattle.td_text.specs.Lines.{lines_of, ended}
use Rattle.td_text.proofs.Ended.{has_line}
use Rattle.td_simulate.specs.SimulationText.{is_mark, opening_text, lines_after}
use Rattle.td_simulate.specs.SimulationText.{number_after}

-- ---- the opening

-- what was taken so far, and what is left, of a text
pub record IsTaken (text : List ℕ) (start : ℕ) (rest : List ℕ) : Type 0 where
  pub front : List ℕ
  pub length : length front ≡ start
  pub parts : text ≡ front ++ rest
  pub opening : opening_text (lines_of text) ≡ front ++ opening_text (lines_of rest)

pub IsTaken-none : (text : List ℕ) → IsTaken text 0 text
IsTaken-none text = record { front = []; length = refl; parts = refl; opening = refl }

opening-mark : (line : List ℕ) (lines : List (List ℕ)) → is_mark line ≡ true
    → opening_text (line ∷ lines) ≡ []
unfolding opening_text
opening-mark line [] h = rw h refl
opening-mark line (next ∷ lines) h = rw h refl

opening-last : (line : List ℕ) → is_mark line ≡ false → opening_text (line ∷ []) ≡ line
unfolding opening_text
opening-last line h = rw h refl

opening-other : (line : List ℕ) (lines : List (List ℕ)) → 0 < length lines → is_mark line ≡ false
    → opening_text (line ∷ lines) ≡ line ++ 10 ∷ opening_text lines
unfolding opening_text
opening-other line [] some h = absurd (omega arith)
opening-other line (next ∷ lines) some h = rw h refl

-- at the line `steps` the opening is what was taken
pub taken-mark : (text rest line : List ℕ) (lines : List (List ℕ)) (start : ℕ)
    → IsTaken text start rest → lines_of rest ≡ line ∷ lines → is_mark line ≡ true
    → take start text ≡ opening_text (lines_of text)
taken-mark text rest line lines start h is mark =
    ap (λ (n : ℕ). take n text) (sym h.length)
    ∙ ap (take (length h.front)) h.parts
    ∙ take-append_seam h.front rest
    ∙ sym (h.opening ∙ ap (λ (l : List ℕ). h.front ++ l)
    (ap opening_text is ∙ opening-mark line lines mark) ∙ append-nil h.front)

-- behind the last line the opening is the whole
pub taken-last : (text rest line : List ℕ) (start : ℕ) → IsTaken text start rest → rest ≡ line ++ []
    → lines_of rest ≡ line ∷ [] → is_mark line ≡ false → text ≡ opening_text (lines_of text)
taken-last text rest line start h whole is other =
    h.parts
    ∙ ap (λ (l : List ℕ). h.front ++ l) (whole ∙ append-nil line)
    ∙ sym (h.opening
    ∙ ap (λ (l : List ℕ). h.front ++ l) (ap opening_text is ∙ opening-last line other))

-- a line more
pub taken-other : (text rest line after : List ℕ) (start : ℕ) → IsTaken text start rest
    → rest ≡ line ++ 10 ∷ after → lines_of rest ≡ line ∷ lines_of after → is_mark line ≡ false
    → IsTaken text (start + (length line + 1)) after
taken-other text rest line after start h whole is other = record {
  front = h.front ++ (line ++ 10 ∷ []);
  length = omega
      (arith, h.length, length-append h.front (line ++ 10 ∷ []), length-append line (10 ∷ []));
  parts = h.parts ∙ ap (λ (l : List ℕ). h.front ++ l)
      (whole ∙ sym (append_assoc line (10 ∷ []) after))
      ∙ sym (append_assoc h.front (line ++ 10 ∷ []) after);
  opening = h.opening
      ∙ ap (λ (l : List ℕ). h.front ++ l)
      (ap opening_text is ∙ opening-other line (lines_of after) (has_line after) other
      ∙ sym (append_assoc line (10 ∷ []) (opening_text (lines_of after))))
      ∙ sym (append_assoc h.front (line ++ 10 ∷ []) (opening_text (lines_of after)));
}

-- ---- the lines behind the line `steps`, and their number

pub length-mark : (line : List ℕ) → is_mark line ≡ true → length line ≡ 5
length-mark line h = ap length ((bytes_eq-Decides line (codes "steps")).0 h)

pub after-mark : (line : List ℕ) (lines : List (List ℕ)) → is_mark line ≡ true
    → lines_after (line ∷ lines) ≡ ended lines
unfolding lines_after
after-mark line lines h = rw h refl

pub after-other : (line : List ℕ) (lines : List (List ℕ)) → is_mark line ≡ false
    → lines_after (line ∷ lines) ≡ lines_after lines
unfolding lines_after
after-other line lines h = rw h refl

-- there are none
pub after-last : (line : List ℕ) → is_mark line ≡ false
    → lines_after (line ∷ []) ≡ ended (lines_of [])
unfolding lines_after ended
after-last line h = rw h refl

pub number-mark : (n : ℕ) (line : List ℕ) (lines : List (List ℕ)) → is_mark line ≡ true
    → number_after n (line ∷ lines) ≡ n + 1
unfolding number_after
number-mark n line lines h = rw h refl

pub number-other : (n : ℕ) (line : List ℕ) (lines : List (List ℕ)) → is_mark line ≡ false
    → number_after n (line ∷ lines) ≡ number_after (n + 1) lines
unfolding number_after
number-other n line lines h = rw h refl
