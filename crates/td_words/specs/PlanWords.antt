-- The words that ask for a plan. This project's own.
use Rattle.std.specs.Prelude.{◌≡◌, ℕ, true, List, [], ◌∷◌, ◌++◌, Bool, Option, Some, codes}
use Rattle.std.specs.Prelude.{if◌then◌else◌}
use Rattle.clap.specs.Walk.{Row, first_of}
use Rattle.td_plan.specs.Message.{can_be_quoted, is_suite}
use Rattle.td_words.specs.declared.present.Present.{Present}
use Rattle.td_words.specs.Folder.{path_if}
use Rattle.td_words.specs.CommandLine.{AskFor, HasTracker, IsPlainPath, archive_words, explaining}
use Rattle.td_words.specs.CommandLine.{given, given_if, is_explained, options_of, suite_in}
use Rattle.td_words.specs.WordsApart.{ArePlain, IsPlainIfGiven, apart, apart_if, archive_apart}

-- ---- 1. what is asked for

-- what a plan is asked for with
pub record PlanWords : Type 0 where
  pub archs : List ℕ
  pub packages : List ℕ
  pub sources : List ℕ
  pub tracker : List ℕ
  pub state : Option (List ℕ)
  pub message : List ℕ
  pub suite : List ℕ

-- a plan's lines can have this message and this suite
pub record AreLineWords (message suite : List ℕ) : Type 0 where
  pub quotable : can_be_quoted message ≡ true
  pub named : is_suite suite ≡ true

-- the message among the options
abbrev pub HasMessage : List Row → List ℕ → Type 0
HasMessage options message = first_of (codes "message") options ≡ Some message

-- the options of `plan` are these, and lines can have its message and its suite
pub record HasPlan (present : Present) (options : List Row) (w : PlanWords) : Type 0 where
  pub files : HasTracker present options w.archs w.packages w.sources w.tracker
  pub state_path : path_if present.state (codes "state") options ≡ w.state
  pub message_text : first_of (codes "message") options ≡ Some w.message
  pub suite_name : suite_in (first_of (codes "suite") options) ≡ w.suite
  pub line_words : AreLineWords w.message w.suite

-- the words ask for this plan
abbrev pub AskForPlan : Present → List (List ℕ) → PlanWords → Type 0
AskForPlan present words w = AskFor (codes "plan") words × HasPlan present (options_of words) w

-- what is said of a message that no quote can hold
abbrev pub message_said : List ℕ
message_said = codes "error: --message takes one line that a single or double quote can hold\n"

-- what is said of a suite that is no word for one
abbrev pub suite_said : List ℕ
suite_said = codes "error: --suite takes small letters, digits and hyphens, a letter first\n"

-- what is said if nothing is wrong but the message or the suite: the first of them that is
abbrev pub line_words_said : List ℕ → List ℕ
line_words_said message = if can_be_quoted message then suite_said else message_said

-- ---- 2. the words that ask for it

-- the words that ask for a plan, each value joined to its option, by what they say of a suite
abbrev pub asking_for_plan : List ℕ → PlanWords → Option (List ℕ) → List (List ℕ)
asking_for_plan program w suite =
    program ∷ codes "plan"
    ∷ archive_words w.archs w.packages w.sources
    (given (codes "tracker") w.tracker ∷ given (codes "message") w.message
    ∷ (given_if (codes "state") w.state ++ given_if (codes "suite") suite))

-- these words ask for the plan, with other rows or without, and with a suite or without
abbrev pub PlanWordsAsk : Type 0
PlanWordsAsk =
    (present : Present) (program : List ℕ) (w : PlanWords) (suite : Option (List ℕ))
    → suite_in suite ≡ w.suite → AreLineWords w.message w.suite
    → AskForPlan present (asking_for_plan program w suite) w

-- the words that ask for a plan, each value as a word of its own
abbrev pub plan_apart : List ℕ → PlanWords → Option (List ℕ) → List (List ℕ)
plan_apart program w suite =
    program ∷ codes "plan"
    ∷ archive_apart w.archs w.packages w.sources
    (apart (codes "tracker") w.tracker (apart (codes "message") w.message
    (apart_if (codes "state") w.state (apart_if (codes "suite") suite []))))

-- words apart ask for this plan, if no value is taken for an option
abbrev pub SeparatePlanWordsAsk : Type 0
SeparatePlanWordsAsk =
    (present : Present) (program : List ℕ) (w : PlanWords) (suite : Option (List ℕ))
    → suite_in suite ≡ w.suite → AreLineWords w.message w.suite
    → ArePlain w.archs w.packages w.sources
    → IsPlainPath w.tracker → IsPlainPath w.message → IsPlainIfGiven w.state
    → IsPlainIfGiven suite
    → AskForPlan present (plan_apart program w suite) w

-- the words of a plan ask for just that, and for an explanation if that word comes after them
pub record PlanWordsExplain : Type 0 where
  pub same : (present : Present) (program : List ℕ) (w : PlanWords) (suite : Option (List ℕ))
      (explained : Bool) → suite_in suite ≡ w.suite → AreLineWords w.message w.suite
      → AskForPlan present (asking_for_plan program w suite ++ explaining explained) w
  pub flag : (program : List ℕ) (w : PlanWords) (suite : Option (List ℕ)) (explained : Bool)
      → is_explained (options_of (asking_for_plan program w suite ++ explaining explained))
      ≡ explained
