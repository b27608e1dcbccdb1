-- The words that ask for a desk that lasts. This project's own.
use Rattle.std.specs.Prelude.{◌≡◌, ℕ, Bool, true, false, List, [], ◌∷◌, ◌++◌, Option, Some, codes}
use Rattle.clap.specs.Walk.{Row, first_of}
use Rattle.td_words.specs.declared.present.Present.{Present}
use Rattle.td_words.specs.Folder.{path_if, path_in}
use Rattle.td_words.specs.CommandLine.{AskFor, HasFiles, IsPlainPath, archive_words, explaining}
use Rattle.td_words.specs.CommandLine.{given, given_if, is_explained, options_of, suite_in}
use Rattle.td_words.specs.ShownWords.{is_set}
use Rattle.td_words.specs.WordsApart.{ArePlain, IsPlainIfGiven, apart, apart_if, archive_apart}

-- ---- 1. what is asked for

-- what a desk is asked for with
pub record DeskWords : Type 0 where
  pub archs : List ℕ
  pub packages : List ℕ
  pub sources : List ℕ
  pub journal : List ℕ
  pub state : Option (List ℕ)
  pub tracker : Option (List ℕ)
  pub suite : List ℕ
  pub waits : Bool

-- the options of `desk` are these. The desk's file counts in a folder whether it is there or not,
-- since a desk makes it; other rows and a tracker count there only if they are there
pub record HasDesk (present : Present) (options : List Row) (w : DeskWords) : Type 0 where
  pub files : HasFiles options w.archs w.packages w.sources
  pub journal_path : path_in (codes "journal") options ≡ Some w.journal
  pub state_path : path_if present.state (codes "state") options ≡ w.state
  pub tracker_path : path_if present.tracker (codes "tracker") options ≡ w.tracker
  pub suite_name : suite_in (first_of (codes "suite") options) ≡ w.suite
  pub waiting : is_set (codes "wait") options ≡ w.waits

-- the words ask for this desk
abbrev pub AskForDesk : Present → List (List ℕ) → DeskWords → Type 0
AskForDesk present words w = AskFor (codes "desk") words × HasDesk present (options_of words) w

-- ---- 2. the words that ask for it

-- the word that asks to wait for the desk's file
abbrev pub wait_words : Bool → List (List ℕ)
wait_words false = []
wait_words true = codes "--wait" ∷ []

-- the words that ask for a desk, each value joined to its option, by what they say of a suite
abbrev pub asking_for_desk : List ℕ → DeskWords → Option (List ℕ) → List (List ℕ)
asking_for_desk program w suite =
    program ∷ codes "desk" ∷ given (codes "journal") w.journal
    ∷ archive_words w.archs w.packages w.sources
    (given_if (codes "state") w.state ++ (given_if (codes "tracker") w.tracker
    ++ (given_if (codes "suite") suite ++ wait_words w.waits)))

-- these words ask for the desk: with other rows, a tracker and a suite or without, and waiting for
-- its file or not
abbrev pub DeskWordsAsk : Type 0
DeskWordsAsk =
    (present : Present) (program : List ℕ) (w : DeskWords) (suite : Option (List ℕ))
    → suite_in suite ≡ w.suite → AskForDesk present (asking_for_desk program w suite) w

-- the words that ask for a desk that doesn't wait, each value as a word of its own
abbrev pub desk_apart : List ℕ → DeskWords → Option (List ℕ) → List (List ℕ)
desk_apart program w suite =
    program ∷ codes "desk"
    ∷ apart (codes "journal") w.journal
    (archive_apart w.archs w.packages w.sources
    (apart_if (codes "state") w.state
    (apart_if (codes "tracker") w.tracker (apart_if (codes "suite") suite []))))

-- words apart ask for this desk, if no value is taken for an option
abbrev pub SeparateDeskWordsAsk : Type 0
SeparateDeskWordsAsk =
    (present : Present) (program : List ℕ) (w : DeskWords) (suite : Option (List ℕ))
    → suite_in suite ≡ w.suite → w.waits ≡ false → ArePlain w.archs w.packages w.sources
    → IsPlainPath w.journal → IsPlainIfGiven w.state → IsPlainIfGiven w.tracker
    → IsPlainIfGiven suite
    → AskForDesk present (desk_apart program w suite) w

-- the words of a desk ask for just that, and for an explanation if that word comes after them
pub record DeskWordsExplain : Type 0 where
  pub same : (present : Present) (program : List ℕ) (w : DeskWords) (suite : Option (List ℕ))
      (explained : Bool) → suite_in suite ≡ w.suite
      → AskForDesk present (asking_for_desk program w suite ++ explaining explained) w
  pub flag : (program : List ℕ) (w : DeskWords) (suite : Option (List ℕ)) (explained : Bool)
      → is_explained (options_of (asking_for_desk program w suite ++ explaining explained))
      ≡ explained
