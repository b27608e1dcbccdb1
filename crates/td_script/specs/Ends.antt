-- How the run of a script ends, and what it leaves. This project's own.
use Rattle.std.specs.Prelude.{◌≡◌, ◌≤◌, ◌<◌, ℕ, List, length, Option, Some, Result, Ok, Err, IfErr}
use Rattle.std.specs.Prelude.{IfSome, IsUtf8}
use Rattle.std.specs.Io.KnownBytes.{Appends, Keeps}
use Rattle.td_bytes.specs.Pieces.{AppendsPrefix}
use Rattle.td_core.specs.History.{History}
use Rattle.td_script.specs.declared.running.RunFault.{RunFault}
use Rattle.td_script.specs.declared.running.RunFault.TheVariants.{Input, Read, TooLong, NotText}
use Rattle.td_script.specs.declared.running.RunFault.TheVariants.{Write, NoMemory}
use Rattle.td_script.specs.declared.running.ScriptEnd.{ScriptEnd}
use Rattle.td_script.specs.Limits.{script_limit}
use Rattle.td_inputs.specs.declared.form_fault.FormFault.TheVariants as fault
use Rattle.td_inputs.specs.Inputs.{AreReadable, IsPatternRefused, IsRefused, Texts}
use Rattle.td_script.specs.Openings.{IsSet}
use Rattle.td_script.specs.Replies.{Setting}
use Rattle.td_script.specs.Script.{script}
use Rattle.td_script.specs.Telling.{Telling}

-- a text that is read as a script: within the limit, and UTF-8
abbrev pub IsScriptText : List ℕ → Type 0
IsScriptText text = (length text ≤ script_limit) × IsUtf8 text

-- a script is all that the reader had
pub record IsScript (known : Option (List ℕ)) (text : List ℕ) : Type 0 where
  pub whole : IfSome known (λ all. all ≡ text)
  pub fits : IsScriptText text

-- a script is answered from this history with this text and this many refusals: as a clerk without
-- builders answers it
pub record IsAnswered (s : Setting) (h : History) (lines text : List ℕ) (refused : ℕ) : Type 0 where
  pub text_is : text ≡ (script s h lines).text
  pub refused_is : refused ≡ (script s h lines).refused

-- what was read is a script, and `So` holds of a text and a number of refusals that may answer it
-- over what the texts say
abbrev pub Plays : Telling → Texts → Option (List ℕ) → (List ℕ → ℕ → Type 0) → Type 0
Plays May x known So =
    (s : Setting) × (h : History) × IsSet x s h
    × ((lines : List ℕ) × IsScript known lines
    × ((text : List ℕ) × (refused : ℕ) × May s h lines text refused × So text refused))

-- the texts say something: no fault of a script comes before one of theirs
abbrev pub AreFine : Texts → Type 0
AreFine x = (s : Setting) × (h : History) × IsSet x s h

-- what an end says if a script may be answered so: the whole text is written and its refusals are
-- counted, or a front of it if the writer failed; at every other fault nothing is written
abbrev pub SaysBy : Telling → Texts → Option (List ℕ) → Option (List ℕ) → Option (List ℕ)
    → Result ScriptEnd RunFault → Type 0
SaysBy May x known old new (Ok end) =
    Plays May x known (λ text refused. (end.refusals ≡ refused) × Appends old new text)
SaysBy May x known old new (Err (Input e)) = IsRefused x e × Keeps old new
SaysBy May x known old new (Err Read) = AreFine x × Keeps old new
SaysBy May x known old new (Err TooLong) =
    AreFine x × IfSome known (λ all. script_limit < length all) × Keeps old new
SaysBy May x known old new (Err NotText) =
    AreFine x × IfSome known (λ all. (length all ≤ script_limit) × ¬ IsUtf8 all) × Keeps old new
SaysBy May x known old new (Err Write) =
    Plays May x known (λ text refused. AppendsPrefix old new text)
SaysBy May x known old new (Err NoMemory) = Keeps old new

-- what an end says if a clerk without builders answers the script
abbrev pub Says : Texts → Option (List ℕ) → Option (List ℕ) → Option (List ℕ)
    → Result ScriptEnd RunFault → Type 0
Says x known old new r = SaysBy IsAnswered x known old new r

-- why a run over readable texts may stop, if the reader has a script: a stream or memory fails,
-- or `regex` refuses a pattern
abbrev pub MayStop : Texts → RunFault → Type 0
MayStop x (Input (fault.Table e)) = ⊥
MayStop x (Input (fault.Archive e)) = ⊥
MayStop x (Input (fault.State e)) = ⊥
MayStop x (Input (fault.NoSuchRow number)) = ⊥
MayStop x (Input (fault.Tracker e)) = IsPatternRefused x.tracker e
MayStop x (Input (fault.Journal e)) = ⊥
MayStop x Read = Unit {0}
MayStop x TooLong = ⊥
MayStop x NotText = ⊥
MayStop x Write = Unit {0}
MayStop x NoMemory = Unit {0}

-- a run over readable texts stops for nothing else
abbrev pub Only : Texts → Option (List ℕ) → Result ScriptEnd RunFault → Type 0
Only x known result =
    (text : List ℕ) → known ≡ Some text → IsScriptText text → AreReadable x
    → IfErr result (MayStop x)
