-- Where in a text a place is: in which of its lines, and how far into it. This project's own; lines
-- end at their newlines, and stanzas are apart by Debian Policy 5.1.
use Rattle.std.specs.Prelude.{ℕ, ◌+◌, ◌-◌, nat_le, ◌&&◌, not, Bool, true, List, [], ◌∷◌}
use Rattle.std.specs.Prelude.{Option, Some, None, length, if◌then◌else◌}
use Rattle.td_text.specs.Lines.{lines_of}
use Rattle.td_stanza.specs.Line.{is_separator}
use Rattle.td_explain.specs.declared.spot.Place.{Place}
use Rattle.td_explain.specs.declared.spot.Place.TheVariants as place
use Rattle.td_explain.specs.declared.spot.Point.{Point}
use Rattle.td_explain.specs.declared.spot.Point.TheVariants.{Line, Stanza, Byte}
use Rattle.td_explain.specs.declared.spot.Spot.{Spot}

-- a line's number, from 1 on, how many of its bytes come before the place, and the line
pub record SpotWords : Type 0 where
  pub number : ℕ
  pub offset : ℕ
  pub line : List ℕ

-- the words of a spot
abbrev pub spot_words : Spot → SpotWords
spot_words s = record { number = s.number; offset = s.offset; line = s.line.now }

-- a place within its text; the text as a whole is none
abbrev pub point_of : Place → Option Point
point_of place.Whole = None
point_of (place.Line number) = Some (Line number)
point_of (place.Stanza number) = Some (Stanza number)
point_of (place.Byte at) = Some (Byte at)

-- whether the place is in the first of the lines that are left; `apart` says that no stanza is open
-- there
abbrev pub is_at : Point → Bool → List ℕ → Bool
is_at (Line number) apart line = nat_le number 1
is_at (Stanza number) apart line = apart && (nat_le number 1 && not (is_separator line))
is_at (Byte at) apart line = nat_le at (length line)

-- a place, counted from after this line: a line fewer, a stanza fewer if one began, or less by the
-- line's bytes and its newline
abbrev pub beyond : Point → Bool → List ℕ → Point
beyond (Line number) apart line = Line (number - 1)
beyond (Stanza number) apart line =
    if apart && not (is_separator line) then Stanza (number - 1) else Stanza number
beyond (Byte at) apart line = Byte (at - length line - 1)

-- how far into its line a place is
abbrev pub offset_of : Point → ℕ
offset_of (Line number) = 0
offset_of (Stanza number) = 0
offset_of (Byte at) = at

-- the place among lines that are counted from this number on
unfoldable pub spot_in : Point → Bool → ℕ → List (List ℕ) → Option SpotWords
spot_in point apart number [] = None
spot_in point apart number (line ∷ lines) =
    if is_at point apart line
    then Some (record { number = number; offset = offset_of point; line = line })
    else spot_in (beyond point apart line) (is_separator line) (number + 1) lines

-- the place in a text; before its first line no stanza is open
abbrev pub spot_of : Point → List ℕ → Option SpotWords
spot_of point text = spot_in point true 1 (lines_of text)
