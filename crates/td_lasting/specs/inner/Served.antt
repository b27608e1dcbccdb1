-- What the answering of one line of a session comes to. This project's own.
use Rattle.std.specs.Prelude.{◌≡◌, ◌⊎◌, ℕ, Bool, true, false, List, Option, Result, IfErr, IfOk, IsTrue}
use Rattle.std.specs.Prelude.{string_bytes}
use Rattle.std.specs.Io.KnownBytes.{Appends}
use Rattle.td_text.specs.Cut.{Without}
use Rattle.td_bytes.specs.Pieces.{AppendsPrefix}
use Rattle.td_ledger.specs.Calls.{Passes}
use Rattle.td_ledger.specs.Disk.{Finds}
use Rattle.td_script.specs.Replies.{Setting}
use Rattle.td_lasting.specs.declared.framing.Framed.{Framed}
use Rattle.td_lasting.specs.declared.framing.Framed.TheVariants.{Whole}
use Rattle.td_lasting.specs.declared.serving.ServeFault.{ServeFault}
use Rattle.td_lasting.specs.declared.serving.ServeFault.TheVariants.{CannotRead, CannotKeep}
use Rattle.td_lasting.specs.declared.serving.ServeFault.TheVariants.{CannotTell, NoMemory}
use Rattle.td_lasting.specs.DeskView.{DeskView, IsTooLong, TellsUpTo}
use Rattle.td_lasting.specs.Sessions.{framed_answer, framed_events}

-- no newline stands in a line that is told of
abbrev pub HasNoNewline : Framed → Type 0
HasNoNewline (Whole text) = Without 10 (string_bytes text)
HasNoNewline framed = Unit {0}

-- the answer is written and what it tells is done, and it is told whether the line is refused
pub record IsLineTold (s : Setting) (framed : Framed) (old new : DeskView)
    (before now : Option (List ℕ)) (refused : Bool) : Type 0 where
  pub written : Appends before now (framed_answer s old.history framed).text
  pub history : new.history ≡ (framed_answer s old.history framed).after
  pub refusal : refused ≡ (framed_answer s old.history framed).refused
  pub running : new.stopped ≡ false
  pub steady : new.device.can_fail ≡ old.device.can_fail

-- the session ends at the line: it isn't kept, or its answer is written in part, or memory ran out
-- and nothing is changed
abbrev pub IsLineLost : Setting → Framed → DeskView → DeskView → Option (List ℕ) → Option (List ℕ)
    → ServeFault → Type 0
IsLineLost s framed old new before now CannotRead = ⊥
IsLineLost s framed old new before now CannotKeep = (now ≡ before) × (new.stopped ≡ true)
    × (IsTrue old.device.honest → (old.device.can_fail ≡ true)
    ⊎ IsTooLong old.device old.history (framed_events s old.history framed))
IsLineLost s framed old new before now CannotTell =
    AppendsPrefix before now (framed_answer s old.history framed).text
    × (new.history ≡ (framed_answer s old.history framed).after)
IsLineLost s framed old new before now NoMemory =
    (now ≡ before) × (new.history ≡ old.history)

-- one or the other; and whatever stops meanwhile, the file tells the history before the line, or
-- that with some first ones of its events
pub record IsServedLine (s : Setting) (framed : Framed) (old new : DeskView)
    (before now : Option (List ℕ)) (result : Result Bool ServeFault) : Type 0 where
  pub told : IfOk result (IsLineTold s framed old new before now)
  pub lost : IfErr result (IsLineLost s framed old new before now)
  pub stock : new.stock ≡ old.stock
  pub honest : new.device.honest ≡ old.device.honest
  pub any_moment : IsTrue old.device.honest → (header : List ℕ)
      → Passes (Finds (TellsUpTo header old.history (framed_events s old.history framed)))
      old.device new.device
