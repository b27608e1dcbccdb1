-- What is opened of the texts of files, and why none is. This project's own.
use Rattle.std.specs.Prelude.{◌≡◌, ℕ, List, [], Option, Some, None, option_copied, option_map}
use Rattle.td_relation.specs.declared.archs.ArchsFault.TheVariants as table
use Rattle.td_rows.specs.Table.{Table}
use Rattle.td_rows.specs.declared.state_file.StateFault.TheVariants as state
use Rattle.td_journal.specs.declared.journal_fault.ReadError.TheVariants as journal
use Rattle.td_core.specs.Phases.{NoneBuilt}
use Rattle.td_indices.specs.Archive.{Contents}
use Rattle.td_indices.specs.declared.archive_fault.ArchiveFault.TheVariants as archive
use Rattle.td_query.specs.Tracking.{IsTracker, tracking}
use Rattle.td_query.specs.declared.tracker_fault.TrackerFault.TheVariants as tracker
use Rattle.td_inputs.specs.declared.form_fault.FormFault.{FormFault}
use Rattle.td_inputs.specs.declared.form_fault.FormFault.TheVariants as fault
use Rattle.td_inputs.specs.declared.input_texts.InputTexts.{InputTexts}
use Rattle.td_inputs.specs.declared.open_fault.OpenFault.{OpenFault}
use Rattle.td_inputs.specs.declared.open_fault.OpenFault.TheVariants.{Refused, NoMemory}
use Rattle.td_inputs.specs.declared.opened.Opened.{Opened}
use Rattle.td_inputs.specs.declared.opened.GivenTracker.{GivenTracker}
use Rattle.td_inputs.specs.Inputs.{AreReplaced, IsArchiveOf, IsPatternRefused}
use Rattle.td_inputs.specs.Inputs.{IsRefused, Texts}

-- ---- 1. what is lent

-- the texts that are opened: no journal is among them, and no suite
abbrev pub texts_of : InputTexts → Texts
texts_of x = record {
  archs = x.archs.now;
  packages = x.packages;
  sources = x.sources;
  state = option_map (λ s. s.now) x.state;
  tracker = option_map (λ s. s.now) x.tracker;
  journal = None;
  suite = [];
}

-- if a state file is given, its rows instead of those with which a desk opens over the archive, and
-- no builder has one of them
abbrev pub AreGivenRows : Contents → Option (List ℕ) → Option Table → Type 0
AreGivenRows c None None = Unit {0}
AreGivenRows c None (Some rows) = ⊥
AreGivenRows c (Some text) None = ⊥
AreGivenRows c (Some text) (Some rows) = AreReplaced c text rows × NoneBuilt rows

-- the tracker of a text, with the text, if one is given
abbrev pub IsGivenTracker : Option (List ℕ) → Option GivenTracker → Type 0
IsGivenTracker None None = Unit {0}
IsGivenTracker None (Some t) = ⊥
IsGivenTracker (Some text) None = ⊥
IsGivenTracker (Some text) (Some t) = (t.text.now ≡ text) × IsTracker text (tracking t.tracker)

-- this is what the texts say: they are this archive, and no other
pub record IsOpened (x : Texts) (o : Opened) : Type 0 where
  pub archive : IsArchiveOf x o.archive.now
  pub only : (c : Contents) → IsArchiveOf x c → o.archive.now ≡ c
  pub rows : AreGivenRows o.archive.now x.state o.rows
  pub tracker : IsGivenTracker x.tracker (option_copied o.tracker)

-- ---- 2. why nothing is lent

-- what a fault of a text is answered as: missing memory is no fault of the text
abbrev pub of_form : FormFault → OpenFault
of_form (fault.Table table.NoMemory) = NoMemory
of_form (fault.Archive archive.NoMemory) = NoMemory
of_form (fault.State state.NoMemory) = NoMemory
of_form (fault.Tracker tracker.NoMemory) = NoMemory
of_form (fault.Journal journal.NoMemory) = NoMemory
of_form e = Refused e

-- a text has a fault of this kind, or memory runs out
abbrev pub OrMemory : (FormFault → Type 0) → OpenFault → Type 0
OrMemory Has (Refused e) = Has e
OrMemory Has NoMemory = Unit {0}

-- a text is refused for this, or memory runs out
abbrev pub IsUnopened : Texts → OpenFault → Type 0
IsUnopened x e = OrMemory (IsRefused x) e

-- `regex` refuses a pattern of the tracker, for this
abbrev pub IsPatternOf : Option (List ℕ) → FormFault → Type 0
IsPatternOf given (fault.Table e) = ⊥
IsPatternOf given (fault.Archive e) = ⊥
IsPatternOf given (fault.State e) = ⊥
IsPatternOf given (fault.NoSuchRow number) = ⊥
IsPatternOf given (fault.Tracker e) = IsPatternRefused given e
IsPatternOf given (fault.Journal e) = ⊥

-- why readable texts may not be opened: `regex` refuses a pattern, or memory runs out
abbrev pub MayFail : Texts → OpenFault → Type 0
MayFail x e = OrMemory (IsPatternOf x.tracker) e
