-- The answers to the lines of a session, one after the other. This project's own.
use Rattle.std.specs.Prelude.{◌≡◌, ℕ, ◌+◌, true, List, [], ◌∷◌, ◌++◌, fold, codes, string_bytes}
use Rattle.std.specs.Prelude.{Option, Some, None, ◌⊎◌, IfSome, IsTrue, Result, Ok, Err}
use Rattle.std.specs.Io.KnownBytes.{Appends}
use Rattle.td_bytes.specs.Pieces.{AppendsPrefix}
use Rattle.td_ledger.specs.Calls.{Passes}
use Rattle.td_ledger.specs.Disk.{Finds}
use Rattle.td_ledger.specs.Lines.{whole_lines}
use Rattle.td_core.specs.History.{History}
use Rattle.td_script.specs.Replies.{Reply, Setting, refuses}
use Rattle.td_script.specs.Script.{Told, added, begun}
use Rattle.td_lasting.specs.declared.event.Event.{Event}
use Rattle.td_lasting.specs.declared.framing.Framed.{Framed}
use Rattle.td_lasting.specs.declared.framing.Framed.TheVariants.{Whole, Unended, TooLong, NotText}
use Rattle.td_lasting.specs.DeskAnswers.{desk_answer}
use Rattle.td_lasting.specs.declared.serving.ServeEnd.{ServeEnd}
use Rattle.td_lasting.specs.declared.serving.ServeFault.{ServeFault}
use Rattle.td_lasting.specs.declared.serving.ServeFault.TheVariants.{CannotRead, CannotKeep}
use Rattle.td_lasting.specs.declared.serving.ServeFault.TheVariants.{CannotTell, NoMemory}
use Rattle.td_lasting.specs.DeskView.{DeskView, IsTooLong, TellsUpTo}
use Rattle.td_lasting.specs.Events.{events_of}
use Rattle.td_lasting.specs.Framing.{FrameEach, FramesAll}

-- the answer to a line of the input: one that can't be taken is refused, comments too
abbrev pub framed_answer : Setting → History → Framed → Reply
framed_answer s h (Whole text) = desk_answer s h (string_bytes text)
framed_answer s h Unended = refuses h (codes "Unended") []
framed_answer s h TooLong = refuses h (codes "TooLong") []
framed_answer s h NotText = refuses h (codes "NotText") []

-- one line more: it is answered from the history that the lines before it leave
abbrev pub with_framed : Setting → Told → Framed → Told
with_framed s t line = added t (framed_answer s t.after line)

-- all lines of a session, from a history: the answers, the history behind them, the refusals
abbrev pub session : Setting → History → List Framed → Told
session s h lines = fold (with_framed s) (begun h) lines

-- the events of a line of the input
abbrev pub framed_events : Setting → History → Framed → List Event
framed_events s h (Whole text) = events_of s h (string_bytes text)
framed_events s h line = []

-- the events of a session, in order
abbrev pub session_events : Setting → History → List Framed → List Event
session_events s h [] = []
session_events s h (line ∷ lines) =
    framed_events s h line ++ session_events s (framed_answer s h line).after lines

-- ---- when more may be read

-- these are the whole lines of what was read; or, at the end of the input, all lines of it, with one
-- that may have been cut
abbrev pub AreRead : List ℕ → List ℕ → List Framed → Type 0
AreRead read left lines = FrameEach (whole_lines read) lines ⊎ ((left ≡ []) × FramesAll read lines)

-- this is left of an input, and the lines of what was read are answered, each answer written
pub record IsTurnAt (s : Setting) (h : History) (input left : List ℕ)
    (before now : Option (List ℕ)) : Type 0 where
  pub read : List ℕ
  pub lines : List Framed
  pub parts : input ≡ read ++ left
  pub are : AreRead read left lines
  pub written : Appends before now (session s h lines).text

-- more may be read, of what clauses know
abbrev pub IsTurn : Setting → History → Option (List ℕ) → Option (List ℕ) → Option (List ℕ)
    → Option (List ℕ) → Type 0
IsTurn s h None left before now = Unit {0}
IsTurn s h (Some input) None before now = ⊥
IsTurn s h (Some input) (Some left) before now = IsTurnAt s h input left before now

-- ---- what a session comes to

-- these lines are answered and their answers written: the desk has the history behind them
pub record AreAnswered (s : Setting) (old new : DeskView) (before now : Option (List ℕ))
    (lines : List Framed) : Type 0 where
  pub written : Appends before now (session s old.history lines).text
  pub history : new.history ≡ (session s old.history lines).after

-- these lines are answered, and the answer to one more is written in part; what it tells is done
pub record AreCutOff (s : Setting) (old new : DeskView) (before now : Option (List ℕ))
    (lines : List Framed) (last : Framed) : Type 0 where
  pub written : AppendsPrefix before now (session s old.history (lines ++ last ∷ [])).text
  pub history : new.history ≡ (session s old.history (lines ++ last ∷ [])).after

-- behind these lines one more may not be kept: the file may fail, or it would be too long
abbrev pub MayNotBeKept : Setting → DeskView → Option (List ℕ) → Option (List ℕ) → List Framed
    → Framed → Type 0
MayNotBeKept s old before now lines last = (old.device.can_fail ≡ true)
    ⊎ ((v : DeskView) × AreAnswered s old v before now lines
    × IsTooLong v.device v.history (framed_events s v.history last))

-- these lines are answered; one more couldn't be kept, and the desk has stopped
pub record AreStopped (s : Setting) (old new : DeskView) (before now : Option (List ℕ))
    (lines : List Framed) (last : Framed) : Type 0 where
  pub written : Appends before now (session s old.history lines).text
  pub stopped : new.stopped ≡ true
  pub due : IsTrue old.device.honest → MayNotBeKept s old before now lines last

-- the first of all lines are these
abbrev pub AreFirstOf : List Framed → List Framed → Type 0
AreFirstOf all lines = (rest : List Framed) × (all ≡ lines ++ rest)

-- what a session says by its end, where all that the reader had is these lines: all of them are
-- answered, and their refusals counted; or a first part of them, up to the fault
abbrev pub EndsBy : Setting → List Framed → DeskView → DeskView → Option (List ℕ)
    → Option (List ℕ) → Result ServeEnd ServeFault → Type 0
EndsBy s all old new before now (Ok end) =
    AreAnswered s old new before now all × (end.refusals ≡ (session s old.history all).refused)
EndsBy s all old new before now (Err CannotRead) =
    (lines : List Framed) × AreFirstOf all lines × AreAnswered s old new before now lines
EndsBy s all old new before now (Err NoMemory) =
    (lines : List Framed) × AreFirstOf all lines × AreAnswered s old new before now lines
EndsBy s all old new before now (Err CannotTell) =
    (lines : List Framed) × ((last : Framed) × AreFirstOf all (lines ++ last ∷ [])
    × AreCutOff s old new before now lines last)
EndsBy s all old new before now (Err CannotKeep) =
    (lines : List Framed) × ((last : Framed) × AreFirstOf all (lines ++ last ∷ [])
    × AreStopped s old new before now lines last)

-- a session over what the reader has: the input's lines are told, and the session says so by its
-- end; and at any moment of it the file tells the history before it, or that behind some first
-- events of it
pub record IsServed (s : Setting) (input before now : Option (List ℕ)) (old new : DeskView)
    (result : Result ServeEnd ServeFault) : Type 0 where
  pub ends : IfSome input (λ bytes.
      (all : List Framed) × FramesAll bytes all × EndsBy s all old new before now result)
  pub any_moment : IfSome input (λ bytes.
      (all : List Framed) → FramesAll bytes all → IsTrue old.device.honest → (header : List ℕ)
      → Passes (Finds (TellsUpTo header old.history (session_events s old.history all)))
      old.device new.device)
