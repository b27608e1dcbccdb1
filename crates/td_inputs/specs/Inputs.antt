-- The texts of the files that a desk is opened over, what they say, and why they are refused. This
-- project's own.
use Rattle.std.specs.Prelude.{◌≡◌, ℕ, true, List, Option, Some, None, length}
use Rattle.td_text.specs.Lines.{lines_of}
use Rattle.td_relation.specs.Arch.{ArchWords}
use Rattle.td_relation.specs.TableFile.{IsTable}
use Rattle.td_relation.specs.TableFile as table_file
use Rattle.td_relation.specs.declared.archs.ArchsFault.{ArchsFault}
use Rattle.td_relation.specs.declared.archs.ArchsFault.TheVariants as table
use Rattle.td_rows.specs.Keys.{ascending}
use Rattle.td_rows.specs.Overlay.{first_missing, overlaid}
use Rattle.td_rows.specs.StateFile.{IsStateFile}
use Rattle.td_rows.specs.StateFile as state_file
use Rattle.td_rows.specs.Table.{Table, keys_of, row_of}
use Rattle.td_rows.specs.declared.key.Key.{Key}
use Rattle.td_rows.specs.declared.state_file.StateFault.{StateFault}
use Rattle.td_rows.specs.declared.state_file.StateFault.TheVariants as state
use Rattle.td_journal.specs.declared.entry.Marked.{Marked}
use Rattle.td_journal.specs.declared.journal_fault.ReadError.{ReadError}
use Rattle.td_journal.specs.declared.journal_fault.ReadError.TheVariants as journal
use Rattle.td_journal.specs.JournalFile.{IsJournalText}
use Rattle.td_journal.specs.JournalFile as journal_file
use Rattle.td_indices.specs.Archive.{Contents, IsArchive}
use Rattle.td_indices.specs.Archive as archive_file
use Rattle.td_indices.specs.Opening.{opening_row}
use Rattle.td_indices.specs.declared.archive_fault.ArchiveFault.{ArchiveFault}
use Rattle.td_indices.specs.declared.archive_fault.ArchiveFault.TheVariants as archive
use Rattle.td_query.specs.TrackerFaults as tracker_file
use Rattle.td_query.specs.TrackerGrammar.{said_in}
use Rattle.td_query.specs.Tracking.{IsTracker, Tracking}
use Rattle.td_query.specs.declared.tracker_fault.TrackerFault.{TrackerFault}
use Rattle.td_query.specs.declared.tracker_fault.TrackerFault.TheVariants as tracker
use Rattle.td_inputs.specs.Lacking.{IsFirstLacking}
use Rattle.td_inputs.specs.declared.form_fault.FormFault.{FormFault}
use Rattle.td_inputs.specs.declared.form_fault.FormFault.TheVariants as fault

-- ---- 1. what the texts say

-- the texts of the files, and the suite
pub record Texts : Type 0 where
  pub archs : List ℕ
  pub packages : List ℕ
  pub sources : List ℕ
  pub state : Option (List ℕ)
  pub tracker : Option (List ℕ)
  pub journal : Option (List ℕ)
  pub suite : List ℕ

-- these texts without the journal
abbrev pub without_journal : Texts → Texts
without_journal x = record {
  archs = x.archs;
  packages = x.packages;
  sources = x.sources;
  state = x.state;
  tracker = x.tracker;
  journal = None;
  suite = x.suite;
}

-- the two indices are this archive, with the architectures of the table
pub record IsArchiveOf (x : Texts) (c : Contents) : Type 0 where
  pub is_table : IsTable (lines_of x.archs) c.table
  pub is_archive : IsArchive c.table (lines_of x.packages) (lines_of x.sources) c

-- the rows with which a desk opens over an archive
pub record AreOpened (c : Contents) (rows : Table) : Type 0 where
  pub same : (k : Key) → row_of rows k ≡ opening_row c k
  pub rising : ascending (keys_of rows) ≡ true

-- the rows with which a desk opens, with those of a state file instead of the ones with their
-- keys, each of which has to be there
pub record AreReplaced (c : Contents) (text : List ℕ) (rows : Table) : Type 0 where
  pub opened : Table
  pub are_opened : AreOpened c opened
  pub given : Table
  pub are_given : IsStateFile (lines_of text) given
  pub none_missing : (k : Key) → first_missing opened given ≡ Some k → ⊥
  pub replaced : rows ≡ overlaid given opened

-- the rows of a state file over those with which a desk opens; if none is given, the latter
abbrev pub AreRowsOf : Contents → Option (List ℕ) → Table → Type 0
AreRowsOf c None rows = AreOpened c rows
AreRowsOf c (Some text) rows = AreReplaced c text rows

-- ---- 2. what is wrong: in the order of the table, the indices, the rows, the tracker, the journal

-- the text of the architectures is no table, for this
abbrev pub IsNoTable : Texts → ArchsFault → Type 0
IsNoTable x table.NoMemory = ⊥
IsNoTable x e = table_file.FaultOf (lines_of x.archs) e

-- the indices are no archive with the table, for this
abbrev pub AreNoIndices : Texts → ArchiveFault → Type 0
AreNoIndices x archive.NoMemory = ⊥
AreNoIndices x e =
    (t : List ArchWords) × IsTable (lines_of x.archs) t
    × archive_file.FaultOf t (lines_of x.packages) (lines_of x.sources) e

-- a text is given, and is no state file
abbrev pub IsNoState : Option (List ℕ) → StateFault → Type 0
IsNoState None e = ⊥
IsNoState (Some text) state.NoMemory = ⊥
IsNoState (Some text) e = state_file.FaultOf (lines_of text) e

-- a text is a state file, and its first line of a row that the archive hasn't has this number
abbrev pub LacksRowAt : Contents → Option (List ℕ) → ℕ → Type 0
LacksRowAt c None number = ⊥
LacksRowAt c (Some text) number =
    (opened : Table) × AreOpened c opened
    × ((given : Table) × IsStateFile (lines_of text) given
    × IsFirstLacking opened (lines_of text) number)

-- a text is given, and is no tracker, or `regex` refuses one of its patterns
abbrev pub IsNoTracker : Option (List ℕ) → TrackerFault → Type 0
IsNoTracker None e = ⊥
IsNoTracker (Some text) tracker.NoMemory = ⊥
IsNoTracker (Some text) e = tracker_file.FaultOf text e

-- a text is given, and is no journal over these rows
abbrev pub IsNoJournal : Table → Option (List ℕ) → ReadError → Type 0
IsNoJournal rows None e = ⊥
IsNoJournal rows (Some text) journal.NoMemory = ⊥
IsNoJournal rows (Some text) e = journal_file.FaultOf rows text e

-- a tracker, if one is given
abbrev pub IsTrackerIfGiven : Option (List ℕ) → Type 0
IsTrackerIfGiven None = Unit {0}
IsTrackerIfGiven (Some text) = (t : Tracking) × IsTracker text t

-- over an archive, a text is refused for this: the rows before the tracker, and that before the
-- journal
abbrev pub IsRefusedOver : Contents → Texts → FormFault → Type 0
IsRefusedOver c x (fault.Table e) = ⊥
IsRefusedOver c x (fault.Archive e) = ⊥
IsRefusedOver c x (fault.State e) = IsNoState x.state e
IsRefusedOver c x (fault.NoSuchRow number) = LacksRowAt c x.state number
IsRefusedOver c x (fault.Tracker e) =
    (rows : Table) × AreRowsOf c x.state rows × IsNoTracker x.tracker e
IsRefusedOver c x (fault.Journal e) =
    (rows : Table) × AreRowsOf c x.state rows × IsTrackerIfGiven x.tracker
    × IsNoJournal rows x.journal e

-- a text is refused for this
abbrev pub IsRefused : Texts → FormFault → Type 0
IsRefused x (fault.Table e) = IsNoTable x e
IsRefused x (fault.Archive e) = AreNoIndices x e
IsRefused x (fault.State e) = (c : Contents) × IsArchiveOf x c × IsRefusedOver c x (fault.State e)
IsRefused x (fault.NoSuchRow number) =
    (c : Contents) × IsArchiveOf x c × IsRefusedOver c x (fault.NoSuchRow number)
IsRefused x (fault.Tracker e) =
    (c : Contents) × IsArchiveOf x c × IsRefusedOver c x (fault.Tracker e)
IsRefused x (fault.Journal e) =
    (c : Contents) × IsArchiveOf x c × IsRefusedOver c x (fault.Journal e)

-- ---- 3. what can't be refused

-- a journal over these rows, if one is given
abbrev pub IsJournalIfGiven : Table → Option (List ℕ) → Type 0
IsJournalIfGiven rows None = Unit {0}
IsJournalIfGiven rows (Some text) = (entries : List Marked) × IsJournalText rows text entries

-- rows for an archive, and a tracker and a journal over them if they are given
pub record IsReadableOver (c : Contents) (x : Texts) : Type 0 where
  pub rows : Table
  pub are_rows : AreRowsOf c x.state rows
  pub tracker : IsTrackerIfGiven x.tracker
  pub journal : IsJournalIfGiven rows x.journal

-- the texts are an archive, and what is given over it can be read
abbrev pub AreReadable : Texts → Type 0
AreReadable x = (c : Contents) × IsArchiveOf x c × IsReadableOver c x

-- `regex` refuses a pattern of the tracker
abbrev pub IsPatternRefused : Option (List ℕ) → TrackerFault → Type 0
IsPatternRefused None e = ⊥
IsPatternRefused (Some text) tracker.NoMemory = ⊥
IsPatternRefused (Some text) e =
    tracker_file.IsPatternFault (length text) (tracker_file.log_in (said_in text)) e
