-- Which files the folder has that the words give, and what the words ask for then. This project's
-- own.
use Rattle.std.specs.Prelude.{◌≡◌, ◌⊎◌, ℕ, List, Bool, true, false, Option, Some, None}
use Rattle.std.specs.Prelude.{IfSome, codes, string_bytes}
use Rattle.td_words.specs.declared.present.Present.{Present}
use Rattle.td_words.specs.declared.request.WordsFault.{WordsFault}
use Rattle.td_words.specs.declared.request.WordsFault.TheVariants as words_fault
use Rattle.td_words.specs.Asked.{Asks, RequestWords, builders_said, track_said}
use Rattle.td_words.specs.CheckWords.{check_said}
use Rattle.td_words.specs.CommandLine.{AskFor, HasFiles, HasRun, HasTrack, HasTracker, HasWaves}
use Rattle.td_words.specs.CommandLine.{RunWords, TrackWords, WavesWords, options_of}
use Rattle.td_words.specs.Folder.{folder_in, in_folder, path_if, tracker_said}
use Rattle.td_words.specs.DeskWords.{DeskWords, HasDesk}
use Rattle.td_words.specs.PlanWords.{HasMessage, HasPlan, PlanWords, line_words_said}
use Rattle.td_tool.specs.Limits.{file_limit}
use Rattle.td_tool.specs.declared.cause.Cause.{Cause}
use Rattle.td_tool.specs.declared.cause.Cause.TheVariants as cause

-- ---- 1. what is found in a folder

-- what may be known of why the file with a path can't be read, as a text of at most so many bytes
abbrev pub Causes : Type 0
Causes = List ℕ → ℕ → Option Cause → Bool

-- a path leads to a folder, by why it can't be read
abbrev pub is_folder : Option Cause → Bool
is_folder (Some cause.IsFolder) = true
is_folder (Some other) = false
is_folder None = false

-- a path leads nowhere, by why it can't be read
abbrev pub leads_nowhere : Option Cause → Bool
leads_nowhere (Some cause.NoSuchFile) = true
leads_nowhere (Some other) = false
leads_nowhere None = false

-- this may be found of a path, or else that it isn't so
abbrev pub CanFind : Causes → List ℕ → (Option Cause → Bool) → Bool → Type 0
CanFind can_be path is_so answer =
    (found : Option Cause) × (is_so found ≡ answer) × (can_be path file_limit found ≡ true)

-- the file of this name may count as being in a folder, or as missing there: it is missing only if
-- the folder is one, and the file's path leads nowhere
abbrev pub CanBeThere : Causes → List ℕ → List ℕ → Bool → Type 0
CanBeThere can_be folder name true =
    CanFind can_be folder is_folder false
    ⊎ CanFind can_be (in_folder name folder) leads_nowhere false
CanBeThere can_be folder name false =
    CanFind can_be folder is_folder true
    × CanFind can_be (in_folder name folder) leads_nowhere true

-- the folder, if one is given, may be found to have these files
pub record CanBePresent (can_be : Causes) (given : Option (List ℕ))
    (present : Present) : Type 0 where
  pub of_state : IfSome given (λ folder.
      CanBeThere can_be folder (codes "state") present.state)
  pub of_tracker : IfSome given (λ folder.
      CanBeThere can_be folder (codes "tracker") present.tracker)
  pub of_journal : IfSome given (λ folder.
      CanBeThere can_be folder (codes "journal") present.journal)

-- the folder that the words give, if they give one, may be found to have these files
abbrev pub CanBeFound : Causes → List (List ℕ) → Present → Type 0
CanBeFound can_be words present = CanBePresent can_be (folder_in (options_of words)) present

-- this holds whatever the folder may be found to have
abbrev pub Whatever : Causes → List (List ℕ) → (Present → Type 0) → Type 0
Whatever can_be words Holds = (present : Present) → CanBeFound can_be words present → Holds present

-- ---- 2. what the words ask for

-- the words ask for this report, whatever the folder may be found to have
abbrev pub AsksForTrack : Causes → List (List ℕ) → TrackWords → Type 0
AsksForTrack can_be words w =
    AskFor (codes "track") words
    × Whatever can_be words (λ present. HasTrack present (options_of words) w)

-- the words ask for these waves, whatever the folder may be found to have
abbrev pub AsksForWaves : Causes → List (List ℕ) → WavesWords → Type 0
AsksForWaves can_be words w =
    AskFor (codes "waves") words
    × Whatever can_be words (λ present. HasWaves present (options_of words) w)

-- the words ask for this plan, whatever the folder may be found to have
abbrev pub AsksForPlan : Causes → List (List ℕ) → PlanWords → Type 0
AsksForPlan can_be words w =
    AskFor (codes "plan") words
    × Whatever can_be words (λ present. HasPlan present (options_of words) w)

-- the words ask for this run, whatever the folder may be found to have
abbrev pub AsksForRun : Causes → List (List ℕ) → RunWords → Type 0
AsksForRun can_be words w =
    AskFor (codes "run") words
    × Whatever can_be words (λ present. HasRun present (options_of words) w)

-- the words ask for this desk, whatever the folder may be found to have
abbrev pub AsksForDesk : Causes → List (List ℕ) → DeskWords → Type 0
AsksForDesk can_be words w =
    AskFor (codes "desk") words
    × Whatever can_be words (λ present. HasDesk present (options_of words) w)

-- the words ask for just this, by what the folder may be found to have
pub record AskFound (can_be : Causes) (words : List (List ℕ)) (asked : RequestWords) : Type 0 where
  pub present : Present
  pub can : CanBeFound can_be words present
  pub asks : Asks present words asked

-- the options give a folder and the files of an archive, but no tracker, whatever the folder may be
-- found to have
pub record LacksTracker (can_be : Causes) (words : List (List ℕ))
    (archs packages sources folder : List ℕ) : Type 0 where
  pub files : HasFiles (options_of words) archs packages sources
  pub folder_path : folder_in (options_of words) ≡ Some folder
  pub none : Whatever can_be words (λ present.
      path_if present.tracker (codes "tracker") (options_of words) ≡ None)

-- ---- 3. what is said of other words

-- what is said of words with which nothing can be wrong but the number of a chunk, the list of
-- statuses, the number of builders, a check's tracker without details, what a plan's lines say, or
-- a tracker that a folder lacks: which there may be. All other texts are `clap`'s, and no clause of
-- it says what they are
pub record SaysWhich (can_be : Causes) (words : List (List ℕ)) (text : List ℕ) : Type 0 where
  pub chunk : (archs packages sources tracker : List ℕ) → AskFor (codes "track") words
      → Whatever can_be words (λ present.
      HasTracker present (options_of words) archs packages sources tracker)
      → text ≡ track_said (options_of words)
  pub plan : (archs packages sources tracker message : List ℕ) → AskFor (codes "plan") words
      → Whatever can_be words (λ present.
      HasTracker present (options_of words) archs packages sources tracker)
      → HasMessage (options_of words) message
      → text ≡ line_words_said message
  pub builders : (archs packages sources : List ℕ) → AskFor (codes "run") words
      → HasFiles (options_of words) archs packages sources → text ≡ builders_said
  pub check : (archs packages sources : List ℕ) → AskFor (codes "check") words
      → HasFiles (options_of words) archs packages sources → text ≡ check_said
  pub track_lacks : (archs packages sources folder : List ℕ) → AskFor (codes "track") words
      → LacksTracker can_be words archs packages sources folder → text ≡ tracker_said
  pub waves_lacks : (archs packages sources folder : List ℕ) → AskFor (codes "waves") words
      → LacksTracker can_be words archs packages sources folder → text ≡ tracker_said
  pub plan_lacks : (archs packages sources folder : List ℕ) → AskFor (codes "plan") words
      → LacksTracker can_be words archs packages sources folder → text ≡ tracker_said

-- a fault of the words says which thing is wrong with them, if only one can be
abbrev pub TellsWhich : Causes → List (List ℕ) → WordsFault → Type 0
TellsWhich can_be words (words_fault.Usage text) = SaysWhich can_be words (string_bytes text)
TellsWhich can_be words words_fault.NoMemory = Unit {0}
