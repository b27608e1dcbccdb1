-- What the inner functions of a run answer. This project's own.
use Rattle.std.specs.Prelude.{◌≡◌, ℕ, List, [], IfErr, IfOk, MatchResult, None, Option, Some}
use Rattle.std.specs.Prelude.{Result, Ok, Err, string_bytes}
use Rattle.td_bytes.specs.declared.text.TextFault.{TextFault}
use Rattle.td_bytes.specs.declared.text.TextFault.TheVariants as text
use Rattle.td_rows.specs.Table.{Table}
use Rattle.td_journal.specs.declared.journal_fault.ReadError.{ReadError}
use Rattle.td_journal.specs.declared.journal_fault.ReadError.TheVariants as journal
use Rattle.td_core.specs.History.{History}
use Rattle.atomic_table.specs.Seated.{TableId}
use Rattle.td_supply.specs.Supply.{Stock}
use Rattle.td_book.specs.Desk.{BookModel}
use Rattle.td_query.specs.Tracking.{IsTracker, Tracking}
use Rattle.td_inputs.specs.declared.form_fault.FormFault.{FormFault}
use Rattle.td_inputs.specs.declared.form_fault.FormFault.TheVariants as fault
use Rattle.td_inputs.specs.declared.open_fault.OpenFault.{OpenFault}
use Rattle.td_inputs.specs.declared.open_fault.OpenFault.TheVariants as opening
use Rattle.td_inputs.specs.Inputs.{IsNoJournal, IsRefused, Texts}
use Rattle.td_inputs.specs.Opened.{IsPatternOf}
use Rattle.td_script.specs.declared.running.RunFault.{RunFault}
use Rattle.td_script.specs.declared.running.RunFault.TheVariants.{Input, Read, TooLong, NotText}
use Rattle.td_script.specs.declared.running.RunFault.TheVariants.{NoMemory}
use Rattle.td_script.specs.declared.told.Told.{Told as ToldText}
use Rattle.td_script.specs.Ends.{AreFine, IsAnswered}
use Rattle.td_script.specs.Openings.{IsBegun, IsSet}
use Rattle.td_script.specs.Replies.{Setting}
use Rattle.td_script.specs.Telling.{Telling}

-- ---- 1. faults

-- why a run stops if no script is read
abbrev pub of_reading : TextFault → RunFault
of_reading text.CannotRead = Read
of_reading text.TooLong = TooLong
of_reading text.NotText = NotText
of_reading text.NoMemory = NoMemory

-- why a run stops whose texts aren't opened
abbrev pub of_opening : OpenFault → RunFault
of_opening (opening.Refused e) = Input e
of_opening opening.NoMemory = NoMemory

-- why a run stops whose journal isn't gone on with
abbrev pub of_journal : ReadError → RunFault
of_journal journal.NoMemory = NoMemory
of_journal e = Input (fault.Journal e)

-- the texts that are opened before the journal is read, with whatever suite
abbrev pub bare_texts : Texts → List ℕ → Texts
bare_texts x suite = record {
  archs = x.archs;
  packages = x.packages;
  sources = x.sources;
  state = x.state;
  tracker = x.tracker;
  journal = None;
  suite = suite;
}

-- the texts that a run opens: a suite is no file's
abbrev pub opening_texts : Texts → Texts
opening_texts x = bare_texts x []

-- a text has a fault of this kind, or memory runs out
abbrev pub OfInput : (FormFault → Type 0) → RunFault → Type 0
OfInput Is (Input e) = Is e
OfInput Is NoMemory = Unit {0}
OfInput Is e = ⊥

-- a text is refused for this, or memory runs out
abbrev pub IsRefusedBy : Texts → RunFault → Type 0
IsRefusedBy x e = OfInput (IsRefused x) e

-- ---- 2. what is answered

-- the tracker that is given
abbrev pub IsTrackerOf : Texts → Tracking → Type 0
IsTrackerOf x t = (text : List ℕ) × (x.tracker ≡ Some text) × IsTracker text t

-- a book of these rows begins: with no entry, or with the journal over them that is gone on with
pub record IsBegunBy (given : Option (List ℕ)) (rows : Table) (table : TableId) (stock : Stock)
    (builders : ℕ) (book : BookModel) : Type 0 where
  pub begun : IsBegun given rows book.history
  pub table_is : book.fixed.table ≡ table
  pub stock_is : book.fixed.stock ≡ stock
  pub builders_are : book.fixed.builders ≡ builders

-- a clerk without builders answers these lines from a book, or memory runs out
pub record IsToldFor (book : BookModel) (s : Setting) (lines : List ℕ)
    (result : Result ToldText ReadError) : Type 0 where
  pub told : IfOk result (λ told.
      IsAnswered s book.history lines (string_bytes told.text) told.refused)
  pub memory : IfErr result (λ fault. fault ≡ journal.NoMemory)

-- a text is no journal over these rows, for this, or memory runs out
abbrev pub IsJournalFault : Table → Option (List ℕ) → ReadError → Type 0
IsJournalFault rows given journal.NoMemory = Unit {0}
IsJournalFault rows given e = IsNoJournal rows given e

-- a text is refused for being no journal over these rows
abbrev pub IsJournalRefused : Table → Option (List ℕ) → FormFault → Type 0
IsJournalRefused rows given (fault.Journal e) = IsNoJournal rows given e
IsJournalRefused rows given e = ⊥

-- nothing is answered from these rows: their journal is refused, or memory runs out
abbrev pub IsUntold : Table → Option (List ℕ) → RunFault → Type 0
IsUntold rows given e = OfInput (IsJournalRefused rows given) e

-- a script may be answered so from these rows, or from the journal over them that is gone on with
abbrev pub IsToldFrom : Telling → Setting → Option (List ℕ) → Table → List ℕ → ToldText → Type 0
IsToldFrom May s given rows lines told =
    (h : History) × IsBegun given rows h × May s h lines (string_bytes told.text) told.refused

-- a script may be answered so over what the texts say
abbrev pub Tells : Telling → Texts → List ℕ → ToldText → Type 0
Tells May x lines told =
    (s : Setting) × (h : History) × IsSet x s h
    × May s h lines (string_bytes told.text) told.refused

-- the answers to a script over what the texts say, or the refusal of a text
abbrev pub TellsOrRefuses : Telling → Texts → List ℕ → Result ToldText RunFault → Type 0
TellsOrRefuses May x lines result = MatchResult result (Tells May x lines) (IsRefusedBy x)

-- no script was read, for this: a text is refused before it, or memory runs out
abbrev pub IsUnread : Texts → TextFault → Result ToldText RunFault → Type 0
IsUnread x why (Ok told) = ⊥
IsUnread x why (Err (Input e)) = IsRefused x e
IsUnread x why (Err NoMemory) = Unit {0}
IsUnread x why (Err e) = AreFine x × (e ≡ of_reading why)

-- ---- 3. what stops nothing but memory, or a pattern

-- memory runs out, or `regex` refuses a pattern of the tracker
abbrev pub Stops : Texts → RunFault → Type 0
Stops x e = OfInput (IsPatternOf x.tracker) e
