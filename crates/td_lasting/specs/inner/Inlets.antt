-- What is left of an input while its lines are told of. This project's own.
use Rattle.std.specs.Prelude.{◌≡◌, ◌≢◌, ◌≤◌, ◌<◌, ℕ, ◌+◌, Bool, true, false, List, [], ◌∷◌, ◌++◌}
use Rattle.std.specs.Prelude.{Option}
use Rattle.std.specs.Prelude.{◌⊎◌, Some, None, length, take, drop}
use Rattle.td_ledger.specs.Lines.{IsLine}
use Rattle.td_lasting.specs.declared.framing.Framed.{Framed}
use Rattle.td_lasting.specs.declared.framing.Framed.TheVariants.{Unended, TooLong}
use Rattle.td_lasting.specs.Framing.{Frames, line_limit}

-- what was read and isn't told of yet, and whether a front of the line was dropped before it
pub record InletView : Type 0 where
  pub ahead : List ℕ
  pub long : Bool

-- this is left of the input, from the start of the line: what is ahead and what the reader has,
-- behind the front that was dropped, if one was, which is too long and has no newline
abbrev pub LeftBy : Bool → List ℕ → List ℕ → List ℕ → Type 0
LeftBy false ahead remaining left = left ≡ ahead ++ remaining
LeftBy true ahead remaining left = (front : List ℕ) × (line_limit < length front) × IsLine front
    × (left ≡ front ++ (ahead ++ remaining))

-- as an inlet has it
abbrev pub IsLeft : InletView → List ℕ → List ℕ → Type 0
IsLeft v remaining left = LeftBy v.long v.ahead remaining left

-- a line of what is left was told of, and this is left behind it
pub record TellsLine (left : List ℕ) (framed : Framed) (after : List ℕ) : Type 0 where
  pub line : List ℕ
  pub parts : left ≡ line ++ 10 ∷ after
  pub is_line : IsLine line
  pub frames : Frames line framed

-- nothing is left behind what is told of: a rest without a newline
pub record TellsRest (left : List ℕ) (framed : Framed) (after : List ℕ) : Type 0 where
  pub some : left ≢ []
  pub is_line : IsLine left
  pub unended : framed ≡ Unended
  pub none : after ≡ []

-- what is told of is the first line of what is left, or a rest without a newline; or nothing is
-- left
abbrev pub TellsFirst : List ℕ → Option Framed → List ℕ → Type 0
TellsFirst left None after = (left ≡ []) × (after ≡ [])
TellsFirst left (Some framed) after = TellsLine left framed after ⊎ TellsRest left framed after

-- a call of an inlet tells of the first line of what was left, where clauses know what the reader
-- has
abbrev pub TellsNext : InletView → InletView → Option (List ℕ) → Option (List ℕ) → Option Framed
    → Type 0
TellsNext old new (Some before) (Some now) told =
    (left : List ℕ) → IsLeft old before left
    → (after : List ℕ) × IsLeft new now after × TellsFirst left told after
TellsNext old new None now told = Unit {0}
TellsNext old new (Some before) None told = ⊥

-- how much was told of, and how much of the rest has no newline
pub record IsInlet (bytes : List ℕ) (told sought : ℕ) : Type 0 where
  pub within : told + sought ≤ length bytes
  pub no_newline : IsLine (take sought (drop told bytes))

-- ---- the steps of a call

-- how the end of a line is told, behind a front that was dropped or none
abbrev pub FramesAs : Bool → List ℕ → Framed → Type 0
FramesAs true line framed = framed ≡ TooLong
FramesAs false line framed = Frames line framed

-- the first line of what is ahead is told of, or none has its newline there
abbrev pub TellsWhole : InletView → InletView → Option Framed → Type 0
TellsWhole old new None = (new ≡ old) × IsLine old.ahead
TellsWhole old new (Some framed) = (line : List ℕ) × (old.ahead ≡ line ++ 10 ∷ new.ahead)
    × IsLine line × (new.long ≡ false) × FramesAs old.long line framed

-- what is ahead stays, or it is too long and is dropped
abbrev pub IsDropped : InletView → InletView → Type 0
IsDropped old new = (new ≡ old)
    ⊎ ((line_limit < length old.ahead) × (new.ahead ≡ []) × (new.long ≡ true))

-- at the end a rest is told of, if there is one
abbrev pub TellsLast : InletView → InletView → Option Framed → Type 0
TellsLast old new None = (old.ahead ≡ []) × (old.long ≡ false) × (new ≡ old)
TellsLast old new (Some framed) = ((old.ahead ≢ []) ⊎ (old.long ≡ true)) × (framed ≡ Unended)
    × (new.ahead ≡ []) × (new.long ≡ false)

-- whatever was left is left, where clauses know what the reader has
abbrev pub StillLeft : InletView → InletView → Option (List ℕ) → Option (List ℕ) → Type 0
StillLeft old new None now = Unit {0}
StillLeft old new (Some before) None = ⊥
StillLeft old new (Some before) (Some now) =
    (left : List ℕ) → IsLeft old before left → IsLeft new now left

-- ---- while no line is told of

-- what was read meanwhile makes no whole line of what is ahead
abbrev pub Waits : InletView → Option (List ℕ) → Option (List ℕ) → Type 0
Waits v None now = Unit {0}
Waits v (Some before) None = ⊥
Waits v (Some before) (Some now) =
    (piece : List ℕ) × (before ≡ piece ++ now) × IsLine (v.ahead ++ piece)

-- it makes none if none is ahead now
abbrev pub StillWaits : InletView → InletView → Option (List ℕ) → Option (List ℕ) → Type 0
StillWaits old new None now = Unit {0}
StillWaits old new (Some before) None = ⊥
StillWaits old new (Some before) (Some now) = (piece : List ℕ) × (before ≡ piece ++ now)
    × (IsLine new.ahead → IsLine (old.ahead ++ piece))
