-- What becomes of rows over which a state file is put. This project's own.
use Rattle.std.specs.Prelude.{◌≡◌, ℕ, List, Some, Result, Ok, Err}
use Rattle.td_text.specs.Lines.{lines_of}
use Rattle.td_rows.specs.Overlay.{first_missing, overlaid}
use Rattle.td_rows.specs.StateFile.{IsStateFile}
use Rattle.td_rows.specs.Table.{Table}
use Rattle.td_rows.specs.declared.key.Key.{Key}
use Rattle.td_inputs.specs.declared.form_fault.FormFault.{FormFault}
use Rattle.td_inputs.specs.declared.form_fault.FormFault.TheVariants as fault
use Rattle.td_inputs.specs.declared.open_fault.OpenFault.{OpenFault}
use Rattle.td_inputs.specs.declared.open_fault.OpenFault.TheVariants.{Refused}
use Rattle.td_inputs.specs.Inputs.{IsNoState}
use Rattle.td_inputs.specs.Lacking.{IsFirstLacking}

-- rows with those of a state file in their places
pub record IsReplacedIn (opened : Table) (text : List ℕ) (rows : Table) : Type 0 where
  pub given : Table
  pub are_given : IsStateFile (lines_of text) given
  pub none_missing : (k : Key) → first_missing opened given ≡ Some k → ⊥
  pub replaced : rows ≡ overlaid given opened

-- a row of a state file has no place among these rows
abbrev pub LacksPlace : Table → List ℕ → Type 0
LacksPlace opened text =
    (given : Table) × IsStateFile (lines_of text) given
    × ((k : Key) × (first_missing opened given ≡ Some k))

-- rows with the given ones of a text in the places of their keys, or one of these has no place
abbrev pub IsPutOver : Table → List ℕ → Table → Result Table OpenFault → Type 0
IsPutOver opened text given (Ok rows) =
    (rows ≡ overlaid given opened) × ((k : Key) → first_missing opened given ≡ Some k → ⊥)
IsPutOver opened text given (Err e) =
    (number : ℕ) × (e ≡ Refused (fault.NoSuchRow number))
    × IsFirstLacking opened (lines_of text) number
    × ((k : Key) × (first_missing opened given ≡ Some k))

-- what is wrong with a text that isn't put over the rows: it is no state file, or has a row that
-- these haven't
abbrev pub IsRefusedIn : Table → List ℕ → FormFault → Type 0
IsRefusedIn opened text (fault.Table e) = ⊥
IsRefusedIn opened text (fault.Archive e) = ⊥
IsRefusedIn opened text (fault.State e) = IsNoState (Some text) e
IsRefusedIn opened text (fault.NoSuchRow number) =
    (given : Table) × IsStateFile (lines_of text) given
    × IsFirstLacking opened (lines_of text) number
IsRefusedIn opened text (fault.Tracker e) = ⊥
IsRefusedIn opened text (fault.Journal e) = ⊥

-- the text is a state file whose rows these have
abbrev pub CanReplace : Table → List ℕ → Type 0
CanReplace opened text =
    (given : Table) × IsStateFile (lines_of text) given
    × ((k : Key) → first_missing opened given ≡ Some k → ⊥)
