-- From what a script starts: the history, the offers and the reports that the texts of files say.
-- This project's own.
use Rattle.std.specs.Prelude.{◌≡◌, ℕ, List, [], ◌∷◌, Option, Some, None, option_map}
use Rattle.std.specs.Prelude.{string_bytes}
use Rattle.td_rows.specs.Table.{Table}
use Rattle.td_journal.specs.declared.entry.Marked.{Marked}
use Rattle.td_journal.specs.JournalFile.{IsJournalText}
use Rattle.td_core.specs.History.{History, history_of, opened}
use Rattle.td_book.specs.Reopening.{given_back}
use Rattle.td_indices.specs.Archive.{Contents}
use Rattle.td_indices.specs.Supplying.{supply_of}
use Rattle.td_query.specs.Tracking.{IsTracker, Tracking}
use Rattle.td_waves.specs.declared.level.Level.{Level}
use Rattle.td_report.specs.Transition.{AreLevels}
use Rattle.td_inputs.specs.Inputs.{AreRowsOf, IsArchiveOf, Texts}
use Rattle.td_script.specs.declared.files.Files.{Files}
use Rattle.td_script.specs.declared.inputs.Inputs.{Inputs}
use Rattle.td_script.specs.Replies.{Setting}
use Rattle.td_script.specs.Reporting.{report_with}

-- the texts of inputs
abbrev pub texts_of : Inputs → Texts
texts_of x = record {
  archs = string_bytes x.archs;
  packages = string_bytes x.packages;
  sources = string_bytes x.sources;
  state = option_map string_bytes x.state;
  tracker = option_map string_bytes x.tracker;
  journal = option_map string_bytes x.journal;
  suite = string_bytes x.suite;
}

-- the texts that files lend
abbrev pub texts_lent : Files → Texts
texts_lent x = record {
  archs = x.archs.now;
  packages = x.packages.now;
  sources = x.sources.now;
  state = option_map (λ s. s.now) x.state;
  tracker = option_map (λ s. s.now) x.tracker;
  journal = option_map (λ s. s.now) x.journal;
  suite = x.suite.now;
}

-- the history from which the script starts: that before the first entry, or that of the journal
-- that is gone on with, in which each build that was left is given back
abbrev pub IsBegun : Option (List ℕ) → Table → History → Type 0
IsBegun None rows h = h ≡ opened rows
IsBegun (Some text) rows h =
    (entries : List Marked) × IsJournalText rows text entries
    × (h ≡ given_back (history_of rows entries))

-- the reports of a tracker: of any rows by the same levels, which are those of its affected sources
pub record AreReportsOf (c : Contents) (text : List ℕ) (report : Table → List ℕ) : Type 0 where
  pub tracking : Tracking
  pub is_tracker : IsTracker text tracking
  pub level : List ℕ → Option Level
  pub depth : ℕ
  pub levels : AreLevels c tracking level depth
  pub same : (rows : Table) → report rows ≡ report_with c tracking level depth rows

-- there are reports if and only if there is a tracker
abbrev pub AreReports : Contents → Option (List ℕ) → Option (Table → List ℕ) → Type 0
AreReports c None None = Unit {0}
AreReports c None (Some report) = ⊥
AreReports c (Some text) None = ⊥
AreReports c (Some text) (Some report) = AreReportsOf c text report

-- what there is over an archive: the offers of its index, the suite, the reports, and the history
-- from which the script starts
pub record IsSetOver (c : Contents) (x : Texts) (s : Setting) (h : History) : Type 0 where
  pub rows : Table
  pub rows_are : AreRowsOf c x.state rows
  pub begun : IsBegun x.journal rows h
  pub stock : s.stock ≡ supply_of c
  pub suites : s.suites ≡ x.suite ∷ []
  pub reports : AreReports c x.tracker s.report

-- what the texts say
abbrev pub IsSet : Texts → Setting → History → Type 0
IsSet x s h = (c : Contents) × IsArchiveOf x c × IsSetOver c x s h
