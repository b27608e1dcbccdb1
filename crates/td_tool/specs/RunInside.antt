-- What the inner functions of `run` answer. This project's own.
use Rattle.std.specs.Prelude.{◌≡◌, ◌⊎◌, ℕ, ◌≤◌, ◌<◌, Bool, List, Option, Result, Ok, Err, length}
use Rattle.std.specs.Prelude.{IfSome, IsErrOf, IsUtf8, String, option_map}
use Rattle.std.specs.Prelude.{string_bytes}
use Rattle.std.specs.declared.alloc.Global.{Global}
use Rattle.td_bytes.specs.declared.text.TextFault.{TextFault}
use Rattle.td_bytes.specs.declared.text.TextFault.TheVariants as text
use Rattle.td_inputs.specs.Inputs as script
use Rattle.td_lines.specs.Notes.{IsNoted}
use Rattle.td_script.specs.Ends as script_ends
use Rattle.td_script.specs.Limits.{script_limit}
use Rattle.td_script.specs.OpeningInside.{of_reading}
use Rattle.td_script.specs.declared.running.RunFault.{RunFault}
use Rattle.td_script.specs.declared.running.RunFault.TheVariants as stop
use Rattle.td_script.specs.declared.running.ScriptEnd.{ScriptEnd}
use Rattle.td_script.specs.Openings.{texts_of as texts_of_inputs}
use Rattle.td_script.specs.declared.inputs.Inputs.{Inputs}
use Rattle.td_words.specs.Asked.{run_words}
use Rattle.td_words.specs.declared.request.RunRequest.{RunRequest}
use Rattle.td_tool.specs.declared.file_texts.FileFault.{FileFault}
use Rattle.td_tool.specs.declared.run_files.RunTexts.{RunTexts}
use Rattle.td_tool.specs.Limits.{file_limit}
use Rattle.td_crew.specs.CrewEnds.{outcomes_of}
use Rattle.td_tool.specs.declared.ending.Ending.{Ending}
use Rattle.td_tool.specs.declared.ending.Ending.TheVariants.{NoMemory}
use Rattle.td_tool.specs.Runs.{AreTextsOf, FailsAt, IsUnread, OnlyPlayEnds, PlayEnds, RunFiles}
use Rattle.td_tool.specs.Runs.{Texts}
use Rattle.td_tool.specs.Runs.{crew_size, ending_of_script, outcome_lines, run_files_asked}
use Rattle.td_tool.specs.Runs.{script_texts}

-- the files that are asked for
abbrev pub run_files_at : (List ℕ → Option (List ℕ)) → (List ℕ → TextFault → Bool)
    → RunRequest → RunFiles
run_files_at bytes can_fail r = run_files_asked bytes can_fail (run_words r)

-- the texts that were read
abbrev pub run_texts_of : RunTexts → Texts
run_texts_of x = record {
  archs = string_bytes x.indices.archs;
  packages = string_bytes x.indices.packages;
  sources = string_bytes x.indices.sources;
  state = option_map string_bytes x.state;
  tracker = option_map string_bytes x.tracker;
  outcomes = option_map string_bytes x.outcomes;
  journal = option_map string_bytes x.journal;
}

-- the files hold the texts that were read
abbrev pub AreRunTexts : RunFiles → RunTexts → Type 0
AreRunTexts files x = AreTextsOf files (run_texts_of x)

-- a file wasn't read, for this
abbrev pub HasRunFailed : RunFiles → FileFault → Type 0
HasRunFailed files f = FailsAt files f.role f.fault

-- the table's text is within the limit
abbrev pub IsWithinLimit : RunTexts → Type 0
IsWithinLimit x = length (string_bytes x.indices.archs) ≤ file_limit

-- a script's inputs have these texts, and this many builders
pub record AreInputsOf (x : Texts) (suite : List ℕ) (builders : ℕ) (inputs : Inputs) : Type 0 where
  pub texts : texts_of_inputs inputs ≡ script_texts x suite
  pub outcomes : outcomes_of inputs ≡ outcome_lines x
  pub crew : inputs.builders ≡ crew_size builders

-- over these texts the run is played so, and ends as it may
pub record Plays (n : ℕ) (x : Texts) (suite : List ℕ) (known old new : Option (List ℕ))
    (ending : Ending) : Type 0 where
  pub says : PlayEnds n x suite known old new ending
  pub only : OnlyPlayEnds n x suite known ending

-- the run is played so over whatever texts the inputs have
abbrev pub PlaysInputs : ℕ → Inputs → Option (List ℕ) → Option (List ℕ) → Option (List ℕ) → Ending
    → Type 0
PlaysInputs n inputs known old new ending =
    (x : Texts) (suite : List ℕ) → AreInputsOf x suite n inputs
    → Plays n x suite known old new ending

-- the files hold texts, and the inputs are made of them
abbrev pub AreInputsFor : RunFiles → List ℕ → Inputs → Type 0
AreInputsFor files suite inputs =
    (x : Texts) × AreTextsOf files x × AreInputsOf x suite files.builders inputs

-- a run that has no inputs ends so: memory has run out, or a file isn't read
abbrev pub HasNoInputs : RunFiles → Ending → Type 0
HasNoInputs files ending = (ending ≡ NoMemory) ⊎ IsUnread files ending

-- ---- what is said of lines

-- notes are those of the script that was read, over what these texts say
abbrev pub IsNotedOver : script.Texts → Option (List ℕ) → String Global → Type 0
IsNotedOver x known notes =
    script_ends.Plays IsNoted x known (λ text refused. string_bytes notes ≡ text)

-- why a run stops that has no script for this, by how an empty script ends
abbrev pub stopped_of : Result ScriptEnd RunFault → TextFault → Result ScriptEnd RunFault
stopped_of (Ok end) why = Err (of_reading why)
stopped_of (Err (stop.Input e)) why = Err (stop.Input e)
stopped_of (Err e) why = Err stop.NoMemory

-- why no script is read of what a reader had
abbrev pub IsFaultOf : Option (List ℕ) → TextFault → Type 0
IsFaultOf known text.CannotRead = Unit {0}
IsFaultOf known text.TooLong = IfSome known (λ all. script_limit < length all)
IsFaultOf known text.NotText = IfSome known (λ all. (length all ≤ script_limit) × ¬ IsUtf8 all)
IsFaultOf known text.NoMemory = Unit {0}

-- a run that has no script for this ends so: as it ends for each reader that has none for this
abbrev pub IsStopped : script.Texts → TextFault → Result ScriptEnd RunFault → Type 0
IsStopped x why r =
    (known old : Option (List ℕ)) → IsFaultOf known why
    → script_ends.Says x known old old r × script_ends.Only x known r

-- over its inputs a run that has no script for this ends so, whatever reader has none for this
abbrev pub PlaysUnread : Inputs → TextFault → Option (List ℕ) → Option (List ℕ) → Ending → Type 0
PlaysUnread inputs why old new ending =
    (known : Option (List ℕ)) → IsFaultOf known why → PlaysInputs 0 inputs known old new ending
