-- What `track`, `waves` and `plan` leave on standard output, as they end. This project's own.
use Rattle.std.specs.Prelude.{◌≡◌, ◌⊎◌, ℕ, Bool, true, false, List, [], length, Option, Some, None}
use Rattle.std.specs.Prelude.{option_map}
use Rattle.std.specs.Io.KnownBytes.{Appends, Keeps}
use Rattle.td_bytes.specs.Pieces.{AppendsPrefix}
use Rattle.td_bytes.specs.declared.text.TextFault.{TextFault}
use Rattle.td_rows.specs.Table.{Table}
use Rattle.td_indices.specs.Archive.{Contents}
use Rattle.td_plan.specs.Lines.{Words}
use Rattle.td_plan.specs.Plan.{IsPlan}
use Rattle.td_plan.specs.Premises.{Premises}
use Rattle.td_plan.specs.Steps.{IsSteps, IsStepsWhy, IsWavesWhy}
use Rattle.td_query.specs.TrackerFaults as tracker_file
use Rattle.td_query.specs.TrackerGrammar.{said_in}
use Rattle.td_query.specs.Tracking.{IsTracker, Tracking}
use Rattle.td_query.specs.declared.tracker_fault.TrackerFault.{TrackerFault}
use Rattle.td_report.specs.Transition.{IsWaves}
use Rattle.td_words.specs.declared.request.WavesForm.{WavesForm}
use Rattle.td_inputs.specs.Inputs as script
use Rattle.td_inputs.specs.Inputs.{AreRowsOf}
use Rattle.td_inputs.specs.declared.role.Role.{Role}
use Rattle.td_inputs.specs.declared.role.Role.TheVariants.{Input, Archs, Packages, Sources, State}
use Rattle.td_inputs.specs.declared.role.Role.TheVariants.{Tracker, Outcomes, Journal}
use Rattle.td_inputs.specs.declared.form_fault.FormFault.{FormFault}
use Rattle.td_inputs.specs.declared.form_fault.FormFault.TheVariants as form
use Rattle.td_tool.specs.declared.early_texts.CutOff.{CutOff}
use Rattle.td_tool.specs.declared.ending.Ending.{Ending}
use Rattle.td_tool.specs.declared.ending.Ending.TheVariants.{Done, Refused, BadInput, NoMemory}
use Rattle.td_tool.specs.declared.ending.Ending.TheVariants.{CannotRead, CannotWrite}
use Rattle.td_tool.specs.declared.ending.Ending.TheVariants.{Locked, CannotKeep}
use Rattle.td_tool.specs.Ending.{ending_of_file, ending_of_form}
use Rattle.td_tool.specs.Counted.{IsArchiveOf, cut_in, tracked_text}
use Rattle.td_tool.specs.Checks.{AreTexts, FaultFits, Files, HasFailed, IsFileText, IsTextOf}
use Rattle.td_tool.specs.Checks.{files_of}
use Rattle.td_tool.specs.CheckInside.{WritesSo}

-- ---- 1. what is read

-- the bytes of a file, if they are known, and for which faults a read of it may fail
pub record OneFile : Type 0 where
  pub known : Option (List ℕ)
  pub can_fail : TextFault → Bool

-- the file of a path
abbrev pub file_at : (List ℕ → Option (List ℕ)) → (List ℕ → TextFault → Bool) → List ℕ → OneFile
file_at bytes can_fail path = record { known = bytes path; can_fail = can_fail path }

-- the files of an archive, that of rows if one is given, and that of a tracker
pub record TrackFiles : Type 0 where
  pub indices : Files
  pub state : Option OneFile
  pub tracker : OneFile

-- the files of these paths
abbrev pub track_files : (List ℕ → Option (List ℕ)) → (List ℕ → TextFault → Bool) → List ℕ → List ℕ
    → List ℕ → Option (List ℕ) → List ℕ → TrackFiles
track_files bytes can_fail archs packages sources state tracker =
    record {
      indices = files_of bytes can_fail archs packages sources;
      state = option_map (file_at bytes can_fail) state;
      tracker = file_at bytes can_fail tracker;
    }

-- what the files of an archive, of rows and of a tracker hold
pub record Texts : Type 0 where
  pub archs : List ℕ
  pub packages : List ℕ
  pub sources : List ℕ
  pub state : Option (List ℕ)
  pub tracker : List ℕ

-- the text of a file that may be left out
abbrev pub IsTextIfGiven : Option OneFile → Option (List ℕ) → Type 0
IsTextIfGiven None None = Unit {0}
IsTextIfGiven None (Some text) = ⊥
IsTextIfGiven (Some file) None = ⊥
IsTextIfGiven (Some file) (Some text) = IsTextOf file.known text

-- the files hold these texts
pub record AreTextsOf (files : TrackFiles) (x : Texts) : Type 0 where
  pub indices : AreTexts files.indices x.archs x.packages x.sources
  pub state : IsTextIfGiven files.state x.state
  pub tracker : IsTextOf files.tracker.known x.tracker

-- a read of a file may fail so
pub record MayFail (file : OneFile) (fault : TextFault) : Type 0 where
  pub may : file.can_fail fault ≡ true
  pub fits : FaultFits file.known fault

-- a read of the file of a role fails so, and those that are read before it are texts: first those
-- of the archive, then the rows, then the tracker
abbrev pub FailsAt : TrackFiles → Role → TextFault → Type 0
FailsAt files Input fault = ⊥
FailsAt files Archs fault = HasFailed files.indices Archs fault
FailsAt files Packages fault = HasFailed files.indices Packages fault
FailsAt files Sources fault = HasFailed files.indices Sources fault
FailsAt files State fault =
    (archs : List ℕ) × (packages : List ℕ) × (sources : List ℕ)
    × AreTexts files.indices archs packages sources
    × ((file : OneFile) × (files.state ≡ Some file) × MayFail file fault)
FailsAt files Tracker fault =
    (archs : List ℕ) × (packages : List ℕ) × (sources : List ℕ)
    × AreTexts files.indices archs packages sources
    × ((state : Option (List ℕ)) × IsTextIfGiven files.state state × MayFail files.tracker fault)
FailsAt files Outcomes fault = ⊥
FailsAt files Journal fault = ⊥

-- a read fails so by a file's role, and so it ends
abbrev pub IsUnreadBy : (Role → TextFault → Type 0) → Ending → Type 0
IsUnreadBy Fails ending =
    (role : Role) × (fault : TextFault) × Fails role fault × (ending ≡ ending_of_file role fault)

-- a file isn't read, and so it ends
abbrev pub IsUnread : TrackFiles → Ending → Type 0
IsUnread files ending = IsUnreadBy (FailsAt files) ending

-- ---- 2. what is found

-- what a tracker says over an archive and rows, as a text
abbrev pub Saying : Type 1
Saying = Contents → Tracking → Table → List ℕ → Type 0

-- what a plan is made of
abbrev pub premises_of : Contents → Tracking → Table → Premises
premises_of c t rows = record { archive = c; tracker = t; rows = rows }

-- the plan of a tracker over an archive and rows, with this message and this suite
abbrev pub IsPlanWith : Words → Saying
IsPlanWith words c t rows text = IsPlan words (premises_of c t rows) text

-- the affected sources by levels or by steps, each with what it builds on or not; only the levels
-- alone are of rows
abbrev pub waves_by : Bool → Bool → Saying
waves_by false false = IsWaves
waves_by false true = λ c t rows text. IsWavesWhy c t text
waves_by true false = λ c t rows text. IsSteps c t text
waves_by true true = λ c t rows text. IsStepsWhy c t text

-- the affected sources, as the words ask for them
abbrev pub waves_says : WavesForm → Saying
waves_says form = waves_by form.steps form.why

-- the details of an archive, of whose indices these may be cut off, and what a tracker asks of it;
-- they are of no rows
abbrev pub details_says : CutOff → Saying
details_says cut c t rows text = text ≡ tracked_text cut c t

-- what texts say of that
abbrev pub details_of : Texts → Saying
details_of x = details_says (cut_in x.packages x.sources)

-- the text that a tracker says over these rows
abbrev pub TrackerSays : Saying → Contents → Table → List ℕ → List ℕ → Type 0
TrackerSays Says c rows tracker text = (t : Tracking) × IsTracker tracker t × Says c t rows text

-- the text that a tracker says over the rows of an archive
abbrev pub RowsSay : Saying → Contents → Option (List ℕ) → List ℕ → List ℕ → Type 0
RowsSay Says c state tracker text =
    (rows : Table) × AreRowsOf c state rows × TrackerSays Says c rows tracker text

-- the text that texts say
abbrev pub TextsSayIt : Saying → Texts → List ℕ → Type 0
TextsSayIt Says x text =
    (c : Contents) × IsArchiveOf x.archs x.packages x.sources c
    × RowsSay Says c x.state x.tracker text

-- ---- 3. what is wrong

-- the texts as a script has them, which has no journal here, and no suite
abbrev pub as_script : Texts → script.Texts
as_script x = record {
  archs = x.archs;
  packages = x.packages;
  sources = x.sources;
  state = x.state;
  tracker = Some x.tracker;
  journal = None;
  suite = [];
}

-- a text has a fault of this kind, and the run ends by it
abbrev pub IsEndedBy : (FormFault → Type 0) → Ending → Type 0
IsEndedBy Has ending = (e : FormFault) × Has e × (ending ≡ ending_of_form e)

-- one of the texts is refused, as a script's are, and so it ends
abbrev pub AreRefused : Texts → Ending → Type 0
AreRefused x ending = IsEndedBy (script.IsRefused (as_script x)) ending

-- ---- 4. how it ends

-- texts were read: they are refused and nothing is written, or what they say is written, whole or a
-- front of it if the writer failed
abbrev pub TextsEndSo : Saying → Texts → Option (List ℕ) → Option (List ℕ) → Ending → Type 0
TextsEndSo Says x old new ending =
    (AreRefused x ending × Keeps old new)
    ⊎ ((text : List ℕ) × TextsSayIt Says x text × WritesSo text old new ending)

-- memory runs out, or a file isn't read, and nothing is written; or the texts end it
abbrev pub SaysSo : (Texts → Saying) → TrackFiles → Option (List ℕ) → Option (List ℕ) → Ending
    → Type 0
SaysSo Says files old new ending =
    ((ending ≡ NoMemory) × Keeps old new)
    ⊎ ((IsUnread files ending × Keeps old new)
    ⊎ ((x : Texts) × AreTextsOf files x × TextsEndSo (Says x) x old new ending))

-- ---- 5. what can't be refused

-- texts are an archive, rows for it and a tracker
abbrev pub AreReadable : Texts → Type 0
AreReadable x = script.AreReadable (as_script x)

-- `regex` refuses a pattern of a tracker, or memory runs out, and so it ends
abbrev pub IsPatternRefused : List ℕ → Ending → Type 0
IsPatternRefused text ending =
    (e : TrackerFault) × tracker_file.IsPatternFault (length text)
    (tracker_file.log_in (said_in text)) e × (ending ≡ ending_of_form (form.Tracker e))

-- a file is known to hold a text
pub record IsKnownText (known : Option (List ℕ)) (text : List ℕ) : Type 0 where
  pub whole : known ≡ Some text
  pub read : IsFileText text

-- if a file that may be left out is given, it is known to hold this text; else there is none
abbrev pub IsKnownIfGiven : Option OneFile → Option (List ℕ) → Type 0
IsKnownIfGiven None None = Unit {0}
IsKnownIfGiven None (Some text) = ⊥
IsKnownIfGiven (Some file) None = ⊥
IsKnownIfGiven (Some file) (Some text) = IsKnownText file.known text

-- the files are known to hold these texts
pub record AreKnownTexts (files : TrackFiles) (x : Texts) : Type 0 where
  pub archs : IsKnownText files.indices.in_archs x.archs
  pub packages : IsKnownText files.indices.in_packages x.packages
  pub sources : IsKnownText files.indices.in_sources x.sources
  pub state : IsKnownIfGiven files.state x.state
  pub tracker : IsKnownText files.tracker.known x.tracker

-- how a run over readable texts may end: with what they say, except for a pattern that `regex`
-- refuses, or a write, memory or a read of a file that fails
abbrev pub EndsTold : Saying → Texts → Option (List ℕ) → Option (List ℕ) → Ending → Type 0
EndsTold Says x old new Done = (text : List ℕ) × TextsSayIt Says x text × Appends old new text
EndsTold Says x old new Refused = ⊥
EndsTold Says x old new (BadInput role e) =
    IsPatternRefused x.tracker (BadInput role e) × Keeps old new
EndsTold Says x old new NoMemory = Keeps old new
EndsTold Says x old new (CannotRead role) = Keeps old new
EndsTold Says x old new CannotWrite =
    (text : List ℕ) × TextsSayIt Says x text × AppendsPrefix old new text
EndsTold Says x old new Locked = ⊥
EndsTold Says x old new CannotKeep = ⊥

-- a run over these files ends so: the ending is as it says, and what readable texts say, by what
-- they are, is written
pub record EndsBy (Says : Texts → Saying) (files : TrackFiles) (old new : Option (List ℕ))
    (ending : Ending) : Type 0 where
  pub says : SaysSo Says files old new ending
  pub only : (x : Texts) → AreKnownTexts files x → AreReadable x
      → EndsTold (Says x) x old new ending

-- a run ends so, by what is said alike of all texts
abbrev pub EndsSo : Saying → TrackFiles → Option (List ℕ) → Option (List ℕ) → Ending → Type 0
EndsSo Says files old new ending = EndsBy (λ x. Says) files old new ending
