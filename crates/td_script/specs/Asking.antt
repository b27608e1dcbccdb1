-- What those who answer a script are asked, and what they may answer. This project's own.
use Rattle.std.specs.Prelude.{◌≡◌, ◌<◌, ◌^◌, ◌-◌, ℕ, List, [], ◌∷◌, Option, Result, IfErr, IfOk}
use Rattle.std.specs.Prelude.{IfSome, length, option_map}
use Rattle.td_core.specs.Phases.{NoneBuilt}
use Rattle.td_indices.specs.Supplying.{supply_of}
use Rattle.td_journal.specs.declared.journal_fault.ReadError.{ReadError}
use Rattle.td_journal.specs.declared.journal_fault.ReadError.TheVariants.{NoMemory}
use Rattle.td_report.specs.TransitionView.{IsMade}
use Rattle.td_script.specs.OpeningInside.{IsJournalFault, IsToldFrom}
use Rattle.td_inputs.specs.Inputs.{IsJournalIfGiven}
use Rattle.td_script.specs.Replies.{Setting}
use Rattle.td_script.specs.Reporting.{report_by}
use Rattle.td_script.specs.Settings.{setting_lent}
use Rattle.td_script.specs.Telling.{Telling}
use Rattle.td_script.specs.declared.staff.Asked.{Asked}
use Rattle.td_script.specs.declared.told.Told.{Told}

-- the text of the journal that is gone on with
abbrev pub journal_asked : Asked → Option (List ℕ)
journal_asked asked = option_map (λ s. s.now) asked.journal

-- the setting in which the lines are answered
abbrev pub setting_asked : Asked → Setting
setting_asked asked =
    setting_lent report_by (supply_of asked.archive.now) (asked.suite ∷ []) asked.reports

-- what a run asks: no row is being built, reports come of a tracker over an archive, and the
-- script's lines can be counted
pub record IsFit (asked : Asked) : Type 0 where
  pub idle : NoneBuilt asked.rows
  pub made : IfSome asked.reports (λ r. IsMade r.now)
  pub small : length asked.script.now < 2 ^ 63 - 1

-- this may be answered to what was asked; else the journal is refused, or memory runs out
pub record IsToldOf (May : Telling) (asked : Asked) (result : Result Told ReadError) : Type 0 where
  pub told : IfOk result
      (IsToldFrom May (setting_asked asked) (journal_asked asked) asked.rows asked.script.now)
  pub fault : IfErr result (IsJournalFault asked.rows (journal_asked asked))
  pub only : IfErr result (λ fault.
      IsJournalIfGiven asked.rows (journal_asked asked) → fault ≡ NoMemory)

-- those who answer may be asked all that a run asks, and each of their answers may be given
pub record CanAnswer (May : Telling) (Allows : Asked → Type 0)
    (Answers : Asked → Result Told ReadError → Type 0) : Type 0 where
  pub asked : (asked : Asked) → IsFit asked → Allows asked
  pub tells : (asked : Asked) (result : Result Told ReadError) → Answers asked result
      → IsToldOf May asked result
