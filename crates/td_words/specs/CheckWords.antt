-- The words of `check`, and what they ask for. This project's own.
use Rattle.std.specs.Prelude.{◌≡◌, ℕ, Bool, true, false, List, [], ◌∷◌, ◌++◌, Option, Some, None}
use Rattle.std.specs.Prelude.{codes}
use Rattle.clap.specs.Walk.{Row, first_of}
use Rattle.td_words.specs.CommandLine.{AskFor, HasFiles, archive_words, explaining, given_if}
use Rattle.td_words.specs.CommandLine.{is_explained, options_of}
use Rattle.td_words.specs.ShownWords.{is_set}
use Rattle.td_words.specs.WordsApart.{ArePlain, archive_apart}

-- what a check is asked for with
pub record CheckWords : Type 0 where
  pub archs : List ℕ
  pub packages : List ℕ
  pub sources : List ℕ
  pub details : Bool
  pub tracker : Option (List ℕ)

-- a tracker goes with details: none is given, or they are asked for
abbrev pub tracker_fits : Option (List ℕ) → Bool → Bool
tracker_fits None details = true
tracker_fits (Some path) details = details

-- whether the options say so
abbrev pub details_fit : List Row → Bool
details_fit options = tracker_fits (first_of (codes "tracker") options)
    (is_set (codes "details") options)

-- the options of `check` are these. A tracker is given by its option alone: one in a folder doesn't
-- count
pub record HasCheck (options : List Row) (w : CheckWords) : Type 0 where
  pub files : HasFiles options w.archs w.packages w.sources
  pub detailed : is_set (codes "details") options ≡ w.details
  pub tracker_path : first_of (codes "tracker") options ≡ w.tracker
  pub fits : details_fit options ≡ true

-- the words ask for this check
abbrev pub AskForCheck : List (List ℕ) → CheckWords → Type 0
AskForCheck words w = AskFor (codes "check") words × HasCheck (options_of words) w

-- the text about a tracker without details
abbrev pub check_said : List ℕ
check_said = codes "error: check takes --tracker only with --details\n"

-- the word that asks for details
abbrev pub detail_words : Bool → List (List ℕ)
detail_words false = []
detail_words true = codes "--details" ∷ []

-- the words that ask for a check, whatever the paths of its files are
abbrev pub asking_for_check : List ℕ → CheckWords → List (List ℕ)
asking_for_check program w =
    program ∷ codes "check" ∷ archive_words w.archs w.packages w.sources
    (detail_words w.details ++ given_if (codes "tracker") w.tracker)

-- the words that ask for a check without details, with the paths as words of their own
abbrev pub check_apart : List ℕ → CheckWords → List (List ℕ)
check_apart program w =
    program ∷ codes "check" ∷ archive_apart w.archs w.packages w.sources []

-- the words of a check ask for it, with each path joined to its option, if a tracker is given only
-- with details
abbrev pub JoinedWordsAsk : Type 0
JoinedWordsAsk =
    (program : List ℕ) (w : CheckWords) → tracker_fits w.tracker w.details ≡ true
    → AskForCheck (asking_for_check program w) w

-- the words of a check without details ask for it with the paths apart, if no path is taken for an
-- option
abbrev pub SeparateWordsAsk : Type 0
SeparateWordsAsk =
    (program : List ℕ) (w : CheckWords) → w.details ≡ false → w.tracker ≡ None
    → ArePlain w.archs w.packages w.sources → AskForCheck (check_apart program w) w

-- the words of a check ask for it, whether `--explain` follows them or not, and for an
-- explanation if and only if it does
pub record CheckWordsExplain : Type 0 where
  pub same : (program : List ℕ) (w : CheckWords) (explained : Bool)
      → tracker_fits w.tracker w.details ≡ true
      → AskForCheck (asking_for_check program w ++ explaining explained) w
  pub flag : (program : List ℕ) (w : CheckWords) (explained : Bool)
      → is_explained (options_of (asking_for_check program w ++ explaining explained))
      ≡ explained
