-- Why a session has no ground. This project's own.
use Rattle.std.specs.Prelude.{◌≡◌, Result, Ok, Err}
use Rattle.td_inputs.specs.declared.form_fault.FormFault.{FormFault}
use Rattle.td_inputs.specs.declared.open_fault.OpenFault.{OpenFault}
use Rattle.td_inputs.specs.declared.open_fault.OpenFault.TheVariants as opening
use Rattle.td_inputs.specs.Inputs.{AreReadable, IsRefused, Texts}
use Rattle.td_inputs.specs.Opened.{IsPatternOf}
use Rattle.td_lasting.specs.declared.serving.ServeEnd.{ServeEnd}
use Rattle.td_session.specs.declared.fault.SessionFault.{SessionFault}
use Rattle.td_session.specs.declared.fault.SessionFault.TheVariants.{Input, NoMemory}

-- why there is no ground, if the opening of the texts came to this
abbrev pub of_judged : Result (Unit {0}) OpenFault → SessionFault
of_judged (Ok done) = NoMemory
of_judged (Err opening.NoMemory) = NoMemory
of_judged (Err (opening.Refused e)) = Input e

-- a text has a fault of this kind, or memory ran out
abbrev pub OrNoMemory : (FormFault → Type 0) → SessionFault → Type 0
OrNoMemory Is (Input e) = Is e
OrNoMemory Is NoMemory = Unit {0}
OrNoMemory Is e = ⊥

-- a text is refused for this, or memory ran out
abbrev pub IsRefusalOf : Texts → SessionFault → Type 0
IsRefusalOf x e = OrNoMemory (IsRefused x) e

-- `regex` refuses a pattern of the tracker, for this, or memory ran out
abbrev pub IsPatternOr : Texts → SessionFault → Type 0
IsPatternOr x e = OrNoMemory (IsPatternOf x.tracker) e

-- a session whose texts are refused ends so: for a fault of theirs, or since memory ran out
pub record IsUngrounded (x : Texts) (end : Result ServeEnd SessionFault) : Type 0 where
  pub fault : SessionFault
  pub end_is : end ≡ Err fault
  pub refused : IsRefusalOf x fault
  pub only : AreReadable x → IsPatternOr x fault
