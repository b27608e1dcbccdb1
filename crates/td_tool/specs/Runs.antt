-- What `run` leaves on standard output, as it ends. This project's own.
use Rattle.std.specs.Prelude.{◌≡◌, ◌⊎◌, ℕ, ◌==◌, min, Bool, true, List, [], Option, Result, Ok, Err}
use Rattle.std.specs.Prelude.{Some, MatchBool, option_map, unwrap_or, if◌then◌else◌}
use Rattle.std.specs.Io.KnownBytes.{Keeps}
use Rattle.td_bytes.specs.declared.text.TextFault.{TextFault}
use Rattle.td_text.specs.Lines.{lines_of, ended}
use Rattle.td_crew.specs.CrewEnds.{AreRead, CrewSays}
use Rattle.td_crew.specs.CrewText.{crew_tells}
use Rattle.td_crew.specs.declared.running.CrewFault.{CrewFault}
use Rattle.td_crew.specs.declared.running.CrewFault.TheVariants as crew
use Rattle.td_query.specs.declared.tracker_fault.TrackerFault.{TrackerFault}
use Rattle.td_lines.specs.Notes.{IsNoted}
use Rattle.td_script.specs.Ends as script_ends
use Rattle.td_script.specs.Ends.{IsScriptText, Says}
use Rattle.td_inputs.specs.Inputs as script
use Rattle.td_inputs.specs.declared.form_fault.FormFault.TheVariants as form
use Rattle.td_script.specs.declared.running.RunFault.{RunFault}
use Rattle.td_script.specs.declared.running.ScriptEnd.{ScriptEnd}
use Rattle.td_words.specs.CommandLine.{RunWords}
use Rattle.td_inputs.specs.declared.role.Role.{Role}
use Rattle.td_inputs.specs.declared.role.Role.TheVariants.{Input, Archs, Packages, Sources, State}
use Rattle.td_inputs.specs.declared.role.Role.TheVariants.{Tracker, Outcomes, Journal}
use Rattle.td_tool.specs.declared.input_fault.InputFault.TheVariants.{BadOutcome}
use Rattle.td_tool.specs.declared.ending.Ending.{Ending}
use Rattle.td_tool.specs.declared.ending.Ending.TheVariants.{Done, Refused, BadInput, NoMemory}
use Rattle.td_tool.specs.declared.ending.Ending.TheVariants.{CannotRead, CannotWrite}
use Rattle.td_tool.specs.declared.ending.Ending.TheVariants.{Locked, CannotKeep}
use Rattle.td_tool.specs.Ending.{ending_of_form, ending_of_stop}
use Rattle.td_tool.specs.Checks.{AreTexts, Files, HasFailed, files_of}
use Rattle.td_tool.specs.Tracks.{IsKnownIfGiven, IsKnownText, IsTextIfGiven, IsUnreadBy, MayFail}
use Rattle.td_tool.specs.Tracks.{OneFile, file_at}
use Rattle.td_tool.specs.UnreadFiles.{tells_of_unread_file}

-- ---- 1. what is read

-- the files of an archive, those that may be given with it, and how many builders are asked for
pub record RunFiles : Type 0 where
  pub indices : Files
  pub state : Option OneFile
  pub tracker : Option OneFile
  pub outcomes : Option OneFile
  pub journal : Option OneFile
  pub builders : ℕ

-- the files that the words name
abbrev pub run_files_asked : (List ℕ → Option (List ℕ)) → (List ℕ → TextFault → Bool) → RunWords
    → RunFiles
run_files_asked bytes can_fail w = record {
  indices = files_of bytes can_fail w.archs w.packages w.sources;
  state = option_map (file_at bytes can_fail) w.state;
  tracker = option_map (file_at bytes can_fail) w.tracker;
  outcomes = option_map (file_at bytes can_fail) w.outcomes;
  journal = option_map (file_at bytes can_fail) w.journal;
  builders = w.builders;
}

-- what the files of a run hold
pub record Texts : Type 0 where
  pub archs : List ℕ
  pub packages : List ℕ
  pub sources : List ℕ
  pub state : Option (List ℕ)
  pub tracker : Option (List ℕ)
  pub outcomes : Option (List ℕ)
  pub journal : Option (List ℕ)

-- the files that are read before the rows hold these texts: those of the archive
abbrev pub AreBeforeState : RunFiles → Texts → Type 0
AreBeforeState files x = AreTexts files.indices x.archs x.packages x.sources

-- the files that are read before the tracker hold these texts: the rows too, if they are given
abbrev pub AreBeforeTracker : RunFiles → Texts → Type 0
AreBeforeTracker files x = AreBeforeState files x × IsTextIfGiven files.state x.state

-- the files that are read before the outcomes hold these texts: the tracker too, if it is given
abbrev pub AreBeforeOutcomes : RunFiles → Texts → Type 0
AreBeforeOutcomes files x = AreBeforeTracker files x × IsTextIfGiven files.tracker x.tracker

-- the files that are read before the journal hold these texts: the outcomes too, if they are given
abbrev pub AreBeforeJournal : RunFiles → Texts → Type 0
AreBeforeJournal files x = AreBeforeOutcomes files x × IsTextIfGiven files.outcomes x.outcomes

-- all files hold these texts
abbrev pub AreTextsOf : RunFiles → Texts → Type 0
AreTextsOf files x = AreBeforeJournal files x × IsTextIfGiven files.journal x.journal

-- a file that may be left out is given, and a read of it may fail so
abbrev pub FailsIfGiven : Option OneFile → TextFault → Type 0
FailsIfGiven given fault = (file : OneFile) × (given ≡ Some file) × MayFail file fault

-- a read of the file of a role fails so, and those that are read before it are texts
abbrev pub FailsAt : RunFiles → Role → TextFault → Type 0
FailsAt files Input fault = ⊥
FailsAt files Archs fault = HasFailed files.indices Archs fault
FailsAt files Packages fault = HasFailed files.indices Packages fault
FailsAt files Sources fault = HasFailed files.indices Sources fault
FailsAt files State fault = ((x : Texts) × AreBeforeState files x) × FailsIfGiven files.state fault
FailsAt files Tracker fault =
    ((x : Texts) × AreBeforeTracker files x) × FailsIfGiven files.tracker fault
FailsAt files Outcomes fault =
    ((x : Texts) × AreBeforeOutcomes files x) × FailsIfGiven files.outcomes fault
FailsAt files Journal fault =
    ((x : Texts) × AreBeforeJournal files x) × FailsIfGiven files.journal fault

-- a file isn't read, and so it ends
abbrev pub IsUnread : RunFiles → Ending → Type 0
IsUnread files ending = IsUnreadBy (FailsAt files) ending

-- ---- 2. how it ends

-- how a run ends by how its script did: with the status of a refusal if a line was refused
abbrev pub ending_of_script : Result ScriptEnd RunFault → Ending
ending_of_script (Ok end) = if end.refusals == 0 then Done else Refused
ending_of_script (Err e) = ending_of_stop e

-- what a script runs over: only a crew has outcomes
abbrev pub script_texts : Texts → List ℕ → script.Texts
script_texts x suite =
    record {
      archs = x.archs;
      packages = x.packages;
      sources = x.sources;
      state = x.state;
      tracker = x.tracker;
      journal = x.journal;
      suite = suite;
    }

-- over these texts a script ends so, which says what is written, and so does the run
abbrev pub ScriptEnds : Texts → List ℕ → Option (List ℕ) → Option (List ℕ) → Option (List ℕ)
    → Ending → Type 0
ScriptEnds x suite known old new ending =
    (r : Result ScriptEnd RunFault) × Says (script_texts x suite) known old new r
    × (ending ≡ ending_of_script r)

-- how a run ends by how its crew did: as a script does, or refused for a line of the outcomes
abbrev pub ending_of_crew : Result ScriptEnd CrewFault → Ending
ending_of_crew (Ok end) = ending_of_script (Ok end)
ending_of_crew (Err (crew.Run e)) = ending_of_stop e
ending_of_crew (Err (crew.BadOutcome line)) = BadInput Outcomes (BadOutcome line)

-- the lines that say how builds end, none if no file is given
abbrev pub outcome_lines : Texts → List (List ℕ)
outcome_lines x = ended (lines_of (unwrap_or x.outcomes []))

-- how many builders a crew has of those that are asked for
abbrev pub crew_size : ℕ → ℕ
crew_size n = min n 64

-- over these texts a crew's script ends so, and so does the run
abbrev pub CrewEnds : ℕ → Texts → List ℕ → Option (List ℕ) → Option (List ℕ) → Option (List ℕ)
    → Ending → Type 0
CrewEnds n x suite known old new ending =
    (r : Result ScriptEnd CrewFault)
    × CrewSays (crew_tells (crew_size n)) (script_texts x suite) (outcome_lines x) known old new r
    × (ending ≡ ending_of_crew r)

-- a clerk answers a script without builders, or a crew answers it with them
abbrev pub PlayEnds : ℕ → Texts → List ℕ → Option (List ℕ) → Option (List ℕ) → Option (List ℕ)
    → Ending → Type 0
PlayEnds n x suite known old new ending =
    MatchBool (n == 0) (ScriptEnds x suite known old new ending)
    (CrewEnds n x suite known old new ending)

-- memory runs out, or a file isn't read, and nothing is written; or the script ends it
abbrev pub RunSays : RunFiles → List ℕ → Option (List ℕ) → Option (List ℕ) → Option (List ℕ)
    → Ending → Type 0
RunSays files suite known old new ending =
    ((ending ≡ NoMemory) × Keeps old new)
    ⊎ ((IsUnread files ending × Keeps old new)
    ⊎ ((x : Texts) × AreTextsOf files x × PlayEnds files.builders x suite known old new ending))

-- ---- 3. what can't be refused

-- the files are known to hold these texts
pub record AreKnownTexts (files : RunFiles) (x : Texts) : Type 0 where
  pub archs : IsKnownText files.indices.in_archs x.archs
  pub packages : IsKnownText files.indices.in_packages x.packages
  pub sources : IsKnownText files.indices.in_sources x.sources
  pub state : IsKnownIfGiven files.state x.state
  pub tracker : IsKnownIfGiven files.tracker x.tracker
  pub outcomes : IsKnownIfGiven files.outcomes x.outcomes
  pub journal : IsKnownIfGiven files.journal x.journal

-- how a run over readable texts may end: its script is answered, except for a pattern that
-- `regex` refuses, or if a file, a stream or memory fails
abbrev pub MayEnd : Option (List ℕ) → Ending → Type 0
MayEnd tracker Done = Unit {0}
MayEnd tracker Refused = Unit {0}
MayEnd tracker (BadInput role e) =
    (fault : TrackerFault) × script.IsPatternRefused tracker fault
    × (BadInput role e ≡ ending_of_form (form.Tracker fault))
MayEnd tracker NoMemory = Unit {0}
MayEnd tracker (CannotRead role) = Unit {0}
MayEnd tracker CannotWrite = Unit {0}
MayEnd tracker Locked = ⊥
MayEnd tracker CannotKeep = ⊥

-- if the reader is known to have a script, and the texts are readable, the run may end so
abbrev pub OnlyEnds : script.Texts → Option (List ℕ) → Ending → Type 0
OnlyEnds x known ending =
    (text : List ℕ) → known ≡ Some text → IsScriptText text → script.AreReadable x
    → MayEnd x.tracker ending

-- if a crew's reader is known to have a script, and outcomes and texts are readable, it may end so
abbrev pub OnlyCrewEnds : script.Texts → List (List ℕ) → Option (List ℕ) → Ending → Type 0
OnlyCrewEnds x lines known ending =
    (text : List ℕ) → known ≡ Some text → IsScriptText text → AreRead lines → script.AreReadable x
    → MayEnd x.tracker ending

-- how a run may end, by whether there are builders
abbrev pub OnlyPlayEnds : ℕ → Texts → List ℕ → Option (List ℕ) → Ending → Type 0
OnlyPlayEnds n x suite known ending =
    MatchBool (n == 0) (OnlyEnds (script_texts x suite) known ending)
    (OnlyCrewEnds (script_texts x suite) (outcome_lines x) known ending)

-- a run over these files ends so: the ending is as it says, a script over readable texts is
-- answered, and if a file isn't read, standard input is left as it was
pub record EndsRun (files : RunFiles) (suite : List ℕ) (known left old new : Option (List ℕ))
    (ending : Ending) : Type 0 where
  pub says : RunSays files suite known old new ending
  pub only : (x : Texts) → AreKnownTexts files x → OnlyPlayEnds files.builders x suite known ending
  pub untouched : tells_of_unread_file ending ≡ true → Keeps known left

-- ---- 4. what is said of its lines

-- the notes of the script that was read, over the texts that the files hold
abbrev pub AreNotes : RunFiles → List ℕ → Option (List ℕ) → List ℕ → Type 0
AreNotes files suite known notes =
    (x : Texts) × AreTextsOf files x
    × script_ends.Plays IsNoted (script_texts x suite) known (λ text refused. notes ≡ text)
