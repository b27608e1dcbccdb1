-- The words of `track`, `waves` and `run` with each value as a word of its own. This project's own.
use Rattle.std.specs.Prelude.{◌≡◌, ℕ, List, [], ◌∷◌, ◌++◌, Option, Some, None, codes}
use Rattle.td_report.specs.Report.{all_shown}
use Rattle.td_words.specs.CommandLine.{AskForRun, AskForTrack, AskForWaves, DeskValues, IsPlainPath}
use Rattle.td_words.specs.CommandLine.{TrackWords, WavesWords, builders_at, chunk_in, plain_run}
use Rattle.td_words.specs.CommandLine.{whole_run}
use Rattle.td_words.specs.ShownWords.{by_levels}
use Rattle.td_words.specs.declared.present.Present.{Present}

-- `--NAME VALUE`, and the words after it
abbrev pub apart : List ℕ → List ℕ → List (List ℕ) → List (List ℕ)
apart name value rest = (codes "--" ++ name) ∷ value ∷ rest

-- `--NAME VALUE` if there is a value, and the words after it
abbrev pub apart_if : List ℕ → Option (List ℕ) → List (List ℕ) → List (List ℕ)
apart_if name None rest = rest
apart_if name (Some value) rest = apart name value rest

-- a value that is given isn't taken for an option
abbrev pub IsPlainIfGiven : Option (List ℕ) → Type 0
IsPlainIfGiven None = Unit {0}
IsPlainIfGiven (Some value) = IsPlainPath value

-- the words that give the files of an archive, apart
abbrev pub archive_apart : List ℕ → List ℕ → List ℕ → List (List ℕ) → List (List ℕ)
archive_apart archs packages sources rest =
    apart (codes "archs") archs
    (apart (codes "packages") packages (apart (codes "sources") sources rest))

-- none of these three paths is taken for an option
pub record ArePlain (archs packages sources : List ℕ) : Type 0 where
  pub archs_plain : IsPlainPath archs
  pub packages_plain : IsPlainPath packages
  pub sources_plain : IsPlainPath sources

-- the words that ask for waves by levels
abbrev pub waves_apart : List ℕ → WavesWords → List (List ℕ)
waves_apart program w =
    program ∷ codes "waves"
    ∷ archive_apart w.archs w.packages w.sources (apart (codes "tracker") w.tracker [])

-- the words with each value apart ask for the waves, if no value is taken for an option
abbrev pub SeparateWavesWordsAsk : Type 0
SeparateWavesWordsAsk =
    (present : Present) (program : List ℕ) (w : WavesWords) → w.form ≡ by_levels
    → ArePlain w.archs w.packages w.sources → IsPlainPath w.tracker
    → AskForWaves present (waves_apart program w) w

-- the words that ask for a report, by what they say of a chunk
abbrev pub track_apart : List ℕ → TrackWords → Option (List ℕ) → List (List ℕ)
track_apart program w chunk =
    program ∷ codes "track"
    ∷ archive_apart w.archs w.packages w.sources
    (apart (codes "tracker") w.tracker
    (apart_if (codes "state") w.state (apart_if (codes "chunk") chunk [])))

-- the words with each value apart ask for the report, if no value is taken for an option
abbrev pub SeparateTrackWordsAsk : Type 0
SeparateTrackWordsAsk =
    (present : Present) (program : List ℕ) (w : TrackWords) (chunk : Option (List ℕ))
    → chunk_in chunk ≡ Some w.chunk
    → w.shown ≡ all_shown → ArePlain w.archs w.packages w.sources → IsPlainPath w.tracker
    → IsPlainIfGiven w.state → IsPlainIfGiven chunk
    → AskForTrack present (track_apart program w chunk) w

-- the words that ask for a run over only an archive
abbrev pub plain_run_apart : List ℕ → List ℕ → List ℕ → List ℕ → List (List ℕ)
plain_run_apart program archs packages sources =
    program ∷ codes "run" ∷ archive_apart archs packages sources []

-- the words with each value apart ask for the plain run, if no value is taken for an option
abbrev pub SeparatePlainRunWordsAsk : Type 0
SeparatePlainRunWordsAsk =
    (present : Present) (program archs packages sources : List ℕ)
    → ArePlain archs packages sources
    → AskForRun present (plain_run_apart program archs packages sources)
    (plain_run archs packages sources)

-- nothing that is given to a run as well as an archive is taken for an option
pub record AreDeskPlain (v : DeskValues) : Type 0 where
  pub state_plain : IsPlainPath v.state
  pub tracker_plain : IsPlainPath v.tracker
  pub suite_plain : IsPlainPath v.suite
  pub builders_plain : IsPlainPath v.builders
  pub outcomes_plain : IsPlainPath v.outcomes
  pub journal_plain : IsPlainPath v.journal

-- the words that ask for a run with all that may be given to it
abbrev pub whole_run_apart : List ℕ → List ℕ → List ℕ → List ℕ → DeskValues → List (List ℕ)
whole_run_apart program archs packages sources v =
    program ∷ codes "run" ∷ archive_apart archs packages sources
    (apart (codes "state") v.state (apart (codes "tracker") v.tracker (apart (codes "suite") v.suite
    (apart (codes "builders") v.builders
    (apart (codes "outcomes") v.outcomes (apart (codes "journal") v.journal []))))))

-- the words with each value apart ask for the whole run, if no value is taken for an option
abbrev pub SeparateWholeRunWordsAsk : Type 0
SeparateWholeRunWordsAsk =
    (present : Present) (program archs packages sources : List ℕ) (v : DeskValues) (count : ℕ)
    → builders_at v.builders ≡ Some count
    → ArePlain archs packages sources → AreDeskPlain v
    → AskForRun present (whole_run_apart program archs packages sources v)
    (whole_run archs packages sources v count)
