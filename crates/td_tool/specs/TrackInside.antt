-- What the inner functions of `track`, `waves` and `plan` answer. This project's own.
use Rattle.std.specs.Prelude.{◌≡◌, ◌⊎◌, ◌≤◌, ℕ, Bool, true, false, List, length, Option, None, Some}
use Rattle.std.specs.Prelude.{option_map, Result, IfOk, IfErr, String, string_bytes}
use Rattle.std.specs.declared.alloc.Global.{Global}
use Rattle.std.specs.Io.KnownBytes.{Keeps}
use Rattle.td_bytes.specs.declared.text.TextFault.{TextFault}
use Rattle.td_rows.specs.Table.{Table}
use Rattle.td_indices.specs.Archive.{Contents}
use Rattle.td_inputs.specs.Inputs as inputs
use Rattle.td_inputs.specs.Inputs.{AreOpened}
use Rattle.td_inputs.specs.Opened.{IsOpened}
use Rattle.td_inputs.specs.declared.opened.Opened.{Opened}
use Rattle.td_inputs.specs.declared.role.Role.{Role}
use Rattle.td_plan.specs.Lines.{Words}
use Rattle.td_plan.specs.inner.Writing.{seen_words}
use Rattle.td_query.specs.Tracking.{Tracking}
use Rattle.td_report.specs.Transition.{IsReportOf, IsWaves}
use Rattle.td_words.specs.declared.line_words.LineWords.{LineWords}
use Rattle.td_words.specs.declared.request.WavesForm.{WavesForm}
use Rattle.td_tool.specs.Limits.{file_limit}
use Rattle.td_tool.specs.declared.early_texts.EarlyTexts.{EarlyTexts}
use Rattle.td_tool.specs.declared.file_texts.FileFault.{FileFault}
use Rattle.td_tool.specs.Checks.{AreTexts, Files}
use Rattle.td_tool.specs.declared.track_files.TrackPaths.{TrackPaths}
use Rattle.td_tool.specs.declared.track_files.TrackTexts.{TrackTexts}
use Rattle.td_tool.specs.declared.track_files.TrackerTexts.{TrackerTexts}
use Rattle.td_tool.specs.declared.tracking.Asked.{Asked}
use Rattle.td_tool.specs.declared.steps_text.Order.{Order}
use Rattle.td_tool.specs.declared.steps_text.Order.TheVariants.{Levels, Steps}
use Rattle.td_tool.specs.declared.tracking.Asked.TheVariants.{Listed, Ordered, Planned, Detailed}
use Rattle.td_tool.specs.declared.tracking.Listing.{Listing}
use Rattle.td_tool.specs.declared.tracking.Listing.TheVariants.{Report, Waves}
use Rattle.td_tool.specs.declared.ending.Ending.{Ending}
use Rattle.td_tool.specs.declared.ending.Ending.TheVariants.{NoMemory}
use Rattle.td_tool.specs.Tracks.{AreReadable, AreRefused, AreTextsOf, EndsTold, FailsAt}
use Rattle.td_tool.specs.Tracks.{IsPatternRefused, IsPlanWith, MayFail, OneFile, Saying, TextsEndSo}
use Rattle.td_tool.specs.Tracks.{TextsSayIt, Texts, TrackFiles, details_says, track_files, waves_by}

-- what a list of a transition says
abbrev pub listed_of : Listing → Saying
listed_of (Report shown chunk) = IsReportOf shown
listed_of Waves = IsWaves

-- what affected sources by steps, or with what each builds on, say
abbrev pub ordered_of : Order → Saying
ordered_of (Steps why) = waves_by true why
ordered_of Levels = waves_by false true

-- what the text that is asked for says
abbrev pub saying_of : Asked → Saying
saying_of (Listed listing) = listed_of listing
saying_of (Ordered order) = ordered_of order
saying_of (Planned words) = IsPlanWith (seen_words words)
saying_of (Detailed cut) = details_says cut

-- what is asked of a tracker where affected sources are listed by steps or by levels, with what
-- each
-- builds on or without
abbrev pub asked_with : (steps why : Bool) → Asked
asked_with true why = Ordered (Steps why)
asked_with false true = Ordered Levels
asked_with false false = Listed Waves

-- what is asked of a tracker by the words of waves
abbrev pub asked_of : WavesForm → Asked
asked_of form = asked_with form.steps form.why

-- a message and a suite that lines can have
abbrev pub words_given : LineWords → Words
words_given w = record { message = string_bytes w.message; suite = string_bytes w.suite }

-- the files of these paths
abbrev pub files_at : (List ℕ → Option (List ℕ)) → (List ℕ → TextFault → Bool) → TrackPaths
    → TrackFiles
files_at bytes can_fail p =
    track_files bytes can_fail (string_bytes p.files.now.archs) (string_bytes p.files.now.packages)
    (string_bytes p.files.now.sources) (option_map string_bytes p.state.now)
    (string_bytes p.tracker.now)

-- the texts of an archive, and those that were read to be looked at over it
abbrev pub texts_over : List ℕ → List ℕ → List ℕ → TrackerTexts → Texts
texts_over archs packages sources over = record {
  archs = archs;
  packages = packages;
  sources = sources;
  state = option_map string_bytes over.state;
  tracker = string_bytes over.tracker;
}

-- the texts that were read
abbrev pub texts_of : TrackTexts → Texts
texts_of x =
    texts_over (string_bytes x.indices.archs) x.indices.packages x.indices.sources x.over

-- the files of an archive hold the texts that were read
abbrev pub AreEarlyTextsIn : Files → EarlyTexts → Type 0
AreEarlyTextsIn files t = AreTexts files (string_bytes t.archs) t.packages t.sources

-- the files hold the texts that were read
abbrev pub AreTextsRead : TrackFiles → TrackTexts → Type 0
AreTextsRead files x = AreTextsOf files (texts_of x)

-- a file wasn't read, for this
abbrev pub HasFailedAt : TrackFiles → FileFault → Type 0
HasFailedAt files f = FailsAt files f.role f.fault

-- the file of this role wasn't read, for this
pub record HasFailedFor (file : OneFile) (role : Role) (f : FileFault) : Type 0 where
  pub asked : f.role ≡ role
  pub may : MayFail file f.fault

-- a file that may be left out is given, and wasn't read
pub record HasFailedIfGiven (files : Option OneFile) (role : Role) (f : FileFault) : Type 0 where
  pub file : OneFile
  pub given : files ≡ Some file
  pub failed : HasFailedFor file role f

-- an ending is this, or memory ran out
abbrev pub OrMemory : (Ending → Type 0) → Ending → Type 0
OrMemory Ends ending = Ends ending ⊎ (ending ≡ NoMemory)

-- ---- 1. what was opened

-- what a tracker says over an archive: over the rows that are given, else over all with which a
-- desk opens over it
abbrev pub GivenSays : Saying → Contents → Option Table → Tracking → List ℕ → Type 0
GivenSays Says c None t text = (rows : Table) × AreOpened c rows × Says c t rows text
GivenSays Says c (Some rows) t text = Says c t rows text

-- these rows are looked at: those that are given, else all with which a desk opens over the archive
abbrev pub AreLookedAt : Contents → Option Table → Table → Type 0
AreLookedAt c None rows = AreOpened c rows
AreLookedAt c (Some given) rows = rows ≡ given

-- this is what some texts say
abbrev pub WasOpened : Opened → Type 0
WasOpened o = (x : inputs.Texts) × IsOpened x o

-- ---- 2. by the texts

-- what these texts say is found, or they are refused, and readable ones only for a pattern
pub record Tells (Says : Saying) (x : Texts) (told : Result (String Global) Ending) : Type 0 where
  pub found : IfOk told (λ text. TextsSayIt Says x (string_bytes text))
  pub refused : IfErr told (OrMemory (AreRefused x))
  pub only : IfErr told (λ ending. AreReadable x → IsPatternRefused x.tracker ending)

-- how a run over these texts ends
pub record TellsTexts (Says : Saying) (x : Texts) (old new : Option (List ℕ))
    (ending : Ending) : Type 0 where
  pub says : ((ending ≡ NoMemory) × Keeps old new) ⊎ TextsEndSo Says x old new ending
  pub only : AreReadable x → EndsTold Says x old new ending

-- the table's text is within the limit
abbrev pub IsTableWithin : TrackTexts → Type 0
IsTableWithin x = length (string_bytes x.indices.archs) ≤ file_limit
