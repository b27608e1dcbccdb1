-- The input of a session as lines, each with what is wrong with it first. This project's own.
use Rattle.std.specs.Prelude.{◌≡◌, ℕ, ◌<◌, ◌≤◌, List, [], ◌∷◌, ◌++◌, IsUtf8, length}
use Rattle.std.specs.Prelude.{string_bytes}
use Rattle.td_ledger.specs.Lines.{IsLine, whole_lines, text_of}
use Rattle.td_lasting.specs.declared.framing.Framed.{Framed}
use Rattle.td_lasting.specs.declared.framing.Framed.TheVariants.{Whole, Unended, TooLong, NotText}

-- the longest line, in bytes without its newline
abbrev pub line_limit : ℕ
line_limit = 1048576

-- what a line with its newline is told as: too long comes before no text
abbrev pub Frames : List ℕ → Framed → Type 0
Frames line (Whole text) =
    (length line ≤ line_limit) × IsUtf8 line × (string_bytes text ≡ line)
Frames line TooLong = line_limit < length line
Frames line NotText = (length line ≤ line_limit) × (IsUtf8 line → ⊥)
Frames line Unended = ⊥

-- each of the lines is told, in their order
abbrev pub FrameEach : List (List ℕ) → List Framed → Type 0
FrameEach [] [] = Unit {0}
FrameEach (line ∷ lines) (framed ∷ more) = Frames line framed × FrameEach lines more
FrameEach [] (framed ∷ more) = ⊥
FrameEach (line ∷ lines) [] = ⊥

-- behind the whole lines a rest without a newline is told as one that may have been cut, whatever
-- else is wrong with it
abbrev pub FramesRest : List ℕ → List Framed → Type 0
FramesRest [] told = told ≡ []
FramesRest (b ∷ rest) told = told ≡ Unended ∷ []

-- all that a reader had, as lines
pub record FramesAll (input : List ℕ) (told : List Framed) : Type 0 where
  pub lines : List Framed
  pub last : List Framed
  pub rest : List ℕ
  pub parts : told ≡ lines ++ last
  pub input_is : input ≡ text_of (whole_lines input) ++ rest
  pub no_line : IsLine rest
  pub each : FrameEach (whole_lines input) lines
  pub behind : FramesRest rest last
