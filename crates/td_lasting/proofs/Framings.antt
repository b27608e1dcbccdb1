-- Every input can be told of as lines, and what is told of first is told of before the rest.
use Rattle.std.proofs.Common.{◌≡◌, ◌≢◌, ◌⊎◌, ◌<◌, ◌≤◌, ℕ, Bool, true, false, Global, IsUtf8, List}
use Rattle.std.proofs.Common.{[], ◌∷◌, ◌++◌, Some, inl, inr, refl, sym, ap, subst, ◌∙◌, arith}
use Rattle.std.proofs.Common.{append_assoc, length, true≢false}
use Rattle.std.specs.Str.{is_utf8}
use Rattle.std.proofs.StringFromBytes.{spelled}
use Rattle.std.proofs.lemmas.Bool.{cases_lt}
use Rattle.std.proofs.lemmas.Grind.{merely}
use Rattle.std.proofs.lemmas.List.Elements.{All-nil}
use Rattle.std.proofs.lemmas.Str.{IsUtf8-from_is_utf8, is_utf8-from_IsUtf8}
use Rattle.td_ledger.specs.Lines.{IsLine, text_of, whole_lines}
use Rattle.td_ledger.proofs.WholeLines.{tail_of, whole_lines-line, whole_lines-more}
use Rattle.td_lasting.specs.declared.framing.Framed.{Framed}
use Rattle.td_lasting.specs.declared.framing.Framed.TheVariants.{Whole, Unended, TooLong, NotText}
use Rattle.td_lasting.specs.Framing.{FrameEach, Frames, FramesAll, FramesRest, line_limit}
use Rattle.td_lasting.specs.inner.Inlets.{TellsFirst}

-- ---- 1. a line

-- bytes are text, or they aren't
text_cases : (line : List ℕ) → IsUtf8 line ⊎ (IsUtf8 line → ⊥)
text_cases line = by (is_utf8 line) refl
  where
    by : (b : Bool) → is_utf8 line ≡ b → IsUtf8 line ⊎ (IsUtf8 line → ⊥)
    by true is = inl (IsUtf8-from_is_utf8 line is)
    by false is = inr (λ text. true≢false (sym (is_utf8-from_IsUtf8 line text) ∙ is))

-- a line that isn't too long
short_told : Global → (line : List ℕ) → length line ≤ line_limit
    → IsUtf8 line ⊎ (IsUtf8 line → ⊥) → (framed : Framed) × Frames line framed
short_told heap line short (inl text) =
    (Whole (spelled heap line (merely text) (omega arith)), (short, text, refl))
short_told heap line short (inr other) = (NotText, (short, other))

line_told : Global → (line : List ℕ) → (framed : Framed) × Frames line framed
line_told heap line = by (cases_lt line_limit (length line))
  where
    by : (line_limit < length line) ⊎ (length line ≤ line_limit)
        → (framed : Framed) × Frames line framed
    by (inl long) = (TooLong, long)
    by (inr short) = short_told heap line short (text_cases line)

-- ---- 2. an input

lines_told : Global → (lines : List (List ℕ)) → (told : List Framed) × FrameEach lines told
lines_told heap [] = ([], tt)
lines_told heap (line ∷ lines) =
    let one = line_told heap line in
    let more = lines_told heap lines in
    (one.0 ∷ more.0, (one.1, more.1))

rest_told : (rest : List ℕ) → (last : List Framed) × FramesRest rest last
rest_told [] = ([], refl)
rest_told (b ∷ rest) = (Unended ∷ [], refl)

pub input_told : Global → (input : List ℕ) → (all : List Framed) × FramesAll input all
input_told heap input =
    let tail = tail_of input in
    let each = lines_told heap (whole_lines input) in
    let last = rest_told tail.rest in (
      each.0 ++ last.0,
      record {
        lines = each.0;
        last = last.0;
        rest = tail.rest;
        parts = refl;
        input_is = tail.split;
        no_line = tail.line;
        each = each.1;
        behind = last.1;
      },
    )

-- ---- 3. an input without a byte

pub nothing_framed : FramesAll [] []
nothing_framed = record {
  lines = [];
  last = [];
  rest = [];
  parts = refl;
  input_is = refl;
  no_line = All-nil (λ b. b ≢ 10);
  each = tt;
  behind = refl;
}

no_lines : (told : List Framed) → FrameEach [] told → told ≡ []
no_lines [] each = refl
no_lines (framed ∷ told) each = absurd each

-- nothing is told of it
none_told : (told : List Framed) → FramesAll [] told → told ≡ []
none_told told all =
    all.parts ∙ ap (λ (l : List Framed). l ++ all.last) (no_lines all.lines all.each)
    ∙ subst (λ (r : List ℕ). FramesRest r all.last) (sym all.input_is) all.behind

-- ---- 4. what is told of first

-- a whole line
line_first : (left line after : List ℕ) (framed : Framed) (rest : List Framed)
    → left ≡ line ++ 10 ∷ after → IsLine line → Frames line framed → FramesAll after rest
    → FramesAll left (framed ∷ rest)
line_first left line after framed rest parts is_line frames all =
    let whole : whole_lines left ≡ line ∷ whole_lines after =
    ap whole_lines parts ∙ whole_lines-more line after is_line in
    record {
      lines = framed ∷ all.lines;
      last = all.last;
      rest = all.rest;
      parts = ap (λ (l : List Framed). framed ∷ l) all.parts;
      input_is = parts ∙ ap (λ (l : List ℕ). line ++ 10 ∷ l) all.input_is
          ∙ sym (append_assoc line (10 ∷ text_of (whole_lines after)) all.rest)
          ∙ ap (λ (l : List (List ℕ)). text_of l ++ all.rest) (sym whole);
      no_line = all.no_line;
      each = subst (λ (l : List (List ℕ)). FrameEach l (framed ∷ all.lines)) (sym whole)
          (frames, all.each);
      behind = all.behind;
    }

some_rest : (rest : List ℕ) → rest ≢ [] → FramesRest rest (Unended ∷ [])
some_rest [] some = absurd (some refl)
some_rest (b ∷ rest) some = refl

-- a rest without a newline
rest_first : (left : List ℕ) → left ≢ [] → IsLine left → FramesAll left (Unended ∷ [])
rest_first left some is_line =
    let none = sym (whole_lines-line left is_line) in
    record {
      lines = [];
      last = Unended ∷ [];
      rest = left;
      parts = refl;
      input_is = ap (λ (l : List (List ℕ)). text_of l ++ left) none;
      no_line = is_line;
      each = subst (λ (l : List (List ℕ)). FrameEach l []) none tt;
      behind = some_rest left some;
    }

pub first_told : (left after : List ℕ) (framed : Framed) (rest : List Framed)
    → TellsFirst left (Some framed) after → FramesAll after rest → FramesAll left (framed ∷ rest)
first_told left after framed rest (inl t) all =
    line_first left t.line after framed rest t.parts t.is_line t.frames all
first_told left after framed rest (inr t) all =
    let none : rest ≡ [] =
    none_told rest (subst (λ (l : List ℕ). FramesAll l rest) t.none all) in
    subst (λ (f : Framed). FramesAll left (f ∷ rest)) (sym t.unended)
    (subst (λ (l : List Framed). FramesAll left (Unended ∷ l)) (sym none)
    (rest_first left t.some t.is_line))
