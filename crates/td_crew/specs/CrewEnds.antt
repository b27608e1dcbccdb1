-- How a crew's run ends whose builds end as lines of a text say. This project's own.
use Rattle.std.specs.Prelude.{◌≡◌, ◌⊎◌, ℕ, List, [], Option, Some, Result, Ok, Err, IfErr}
use Rattle.std.specs.Prelude.{option_map, string_bytes, unwrap_or}
use Rattle.std.specs.Io.KnownBytes.{Keeps}
use Rattle.td_text.specs.Lines.{lines_of, ended}
use Rattle.td_rows.specs.declared.key.Key.{Key}
use Rattle.td_rows.specs.declared.outcome.Outcome.{Outcome}
use Rattle.td_builder.specs.declared.fault.OutcomesFault.{OutcomesFault}
use Rattle.td_builder.specs.declared.fault.OutcomesFault.TheVariants as bad
use Rattle.td_builder.specs.OutcomeLines.{AreOutcomes, IsFirstBad}
use Rattle.td_script.specs.declared.inputs.Inputs.{Inputs}
use Rattle.td_script.specs.declared.running.RunFault.{RunFault}
use Rattle.td_script.specs.declared.running.RunFault.TheVariants as run
use Rattle.td_script.specs.declared.running.ScriptEnd.{ScriptEnd}
use Rattle.td_script.specs.Ends.{AreFine, IsScriptText, MayStop, SaysBy}
use Rattle.td_script.specs.OpeningInside.{IsRefusedBy, Stops}
use Rattle.td_inputs.specs.Inputs.{AreReadable, Texts, without_journal}
use Rattle.td_script.specs.Telling.{Telling}
use Rattle.td_crew.specs.declared.running.CrewFault.{CrewFault}
use Rattle.td_crew.specs.declared.running.CrewFault.TheVariants.{BadOutcome, Run}

-- the lines that say how builds end: none if there is no text of them
abbrev pub outcomes_of : Inputs → List (List ℕ)
outcomes_of x = ended (lines_of (unwrap_or (option_map string_bytes x.outcomes) []))

-- each of the lines is one of a build's end
abbrev pub AreRead : List (List ℕ) → Type 0
AreRead lines = (os : List (Key × Outcome)) × AreOutcomes lines os

-- what an end says: of the outcomes as soon as the files before them are fine, whatever the journal
-- after them is, and of the rest as if there were no outcomes
abbrev pub CrewSays : Telling → Texts → List (List ℕ) → Option (List ℕ) → Option (List ℕ)
    → Option (List ℕ) → Result ScriptEnd CrewFault → Type 0
CrewSays May x outcomes known old new (Ok end) =
    AreRead outcomes × SaysBy May x known old new (Ok end)
CrewSays May x outcomes known old new (Err (BadOutcome n)) =
    IsFirstBad outcomes n × AreFine (without_journal x) × Keeps old new
CrewSays May x outcomes known old new (Err (Run e)) =
    (AreRead outcomes ⊎ IsRefusedBy (without_journal x) e) × SaysBy May x known old new (Err e)

-- why a crew's run over readable texts may stop, if the reader has a script and the outcomes are
-- read
abbrev pub CrewMayStop : Texts → CrewFault → Type 0
CrewMayStop x (BadOutcome n) = ⊥
CrewMayStop x (Run e) = MayStop x e

-- why a crew's run may stop if the outcomes aren't read: a bad line of them, memory runs out, or
-- `regex` refuses a pattern
abbrev pub UnreadMayStop : Texts → CrewFault → Type 0
UnreadMayStop x (BadOutcome n) = Unit {0}
UnreadMayStop x (Run e) = Stops x e

-- a crew's run stops for nothing else. If the outcomes aren't read, the journal isn't asked for
pub record CrewOnly (x : Texts) (outcomes : List (List ℕ)) (known : Option (List ℕ))
    (result : Result ScriptEnd CrewFault) : Type 0 where
  pub read : (text : List ℕ) → known ≡ Some text → IsScriptText text → AreRead outcomes
      → AreReadable x → IfErr result (CrewMayStop x)
  pub unread : (AreRead outcomes → ⊥) → AreReadable (without_journal x)
      → IfErr result (UnreadMayStop (without_journal x))

-- ---- as the code has it

-- the outcomes aren't read, or a file before them is refused
abbrev pub IsNoOutcomes : Texts → List (List ℕ) → CrewFault → Type 0
IsNoOutcomes x outcomes (BadOutcome n) = IsFirstBad outcomes n × AreFine (without_journal x)
IsNoOutcomes x outcomes (Run e) = IsRefusedBy (without_journal x) e

-- memory runs out, or `regex` refuses a pattern
abbrev pub StopsSo : Texts → CrewFault → Type 0
StopsSo x (BadOutcome n) = ⊥
StopsSo x (Run e) = Stops x e

-- why no outcomes are read: the fault of a file before them comes first
abbrev pub unread_fault : Result (Unit {0}) RunFault → OutcomesFault → CrewFault
unread_fault (Err e) fault = Run e
unread_fault (Ok u) (bad.BadLine n) = BadOutcome n
unread_fault (Ok u) bad.NoMemory = Run run.NoMemory

-- the end of a run whose outcomes are read is that of the script
abbrev pub crew_end : Result ScriptEnd RunFault → Result ScriptEnd CrewFault
crew_end (Ok end) = Ok end
crew_end (Err e) = Err (Run e)
