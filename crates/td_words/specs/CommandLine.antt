-- The program's command line, as `clap` sees it. This project's own.
use Rattle.std.specs.Prelude.{◌≡◌, ◌==◌, ℕ, nat_lt, true, false, List, [], ◌∷◌, ◌++◌, Bool, Option}
use Rattle.std.specs.Prelude.{Some, None, option_map, unwrap_or, codes, if◌then◌else◌}
use Rattle.std.specs.Option.{option_map_or}
use Rattle.td_text.specs.Chain.{◌>>=◌}
use Rattle.td_text.specs.Numbers.{number_at}
use Rattle.clap.specs.declared.builder.action.ArgAction.TheVariants.{SetTrue}
use Rattle.clap.specs.Faults.{fault_of}
use Rattle.clap.specs.Kinds.{Kinds}
use Rattle.clap.specs.Walk.{Row, Rule, first_of}
use Rattle.clap.specs.Simple.{App, Shape, new_app, new_rule, on_top, subcommand_of}
use Rattle.clap.specs.Simple.{with_rule, with_subcommand}
use Rattle.td_report.specs.Report.{all_shown}
use Rattle.td_report.specs.declared.shown.Shown.{Shown}
use Rattle.td_words.specs.declared.present.Present.{Present}
use Rattle.td_words.specs.declared.request.WavesForm.{WavesForm}
use Rattle.td_words.specs.Folder.{path_if, path_in}
use Rattle.td_words.specs.ShownWords.{form_in, is_set, none_shown, shown_in, statuses_at}

-- an option with one value that something needs. `clap` wants it only if the command line is read
-- strictly: that is for what is said of bad words, since a folder may give it too
abbrev pub needed_option : Bool → List ℕ → Rule
needed_option strict name =
    record (new_rule name) { long = Some name; value_names = 1; required = strict }

-- an option without a value, given once or not at all
abbrev pub flag_of : List ℕ → Rule
flag_of name = record (new_rule name) { long = Some name; action = Some SetTrue }

-- each subcommand can be asked to explain a refusal, and `simulate` nothing else
abbrev pub with_explanation : App → App
with_explanation a = with_rule a (flag_of (codes "explain"))

-- the subcommand `simulate`
abbrev pub simulate_shape : Shape
simulate_shape = (with_explanation (new_app (codes "simulate"))).top

-- an option that may be left out, given once, with one value
abbrev pub option_of : List ℕ → Rule
option_of name = record (new_rule name) { long = Some name; value_names = 1 }

-- the files of an archive, and a folder that may have them
abbrev pub with_archive_rules : Bool → App → App
with_archive_rules strict a =
    with_rule (with_rule (with_rule (with_rule a (needed_option strict (codes "archs")))
    (needed_option strict (codes "packages"))) (needed_option strict (codes "sources")))
    (option_of (codes "folder"))

-- `check` may be asked for details, and be given a tracker for them
abbrev pub with_check_rules : Bool → App → App
with_check_rules strict a =
    with_rule (with_rule (with_archive_rules strict a) (flag_of (codes "details")))
    (option_of (codes "tracker"))

-- the subcommand `check`, which needs these files
abbrev pub check_shape : Bool → Shape
check_shape strict = (with_explanation (with_check_rules strict (new_app (codes "check")))).top

-- `track`, `waves` and `plan` need a tracker too
abbrev pub with_tracker_rules : Bool → App → App
with_tracker_rules strict a =
    with_rule (with_archive_rules strict a) (needed_option strict (codes "tracker"))

-- `waves` may be asked for steps, and for what each source builds on
abbrev pub with_form_rules : Bool → App → App
with_form_rules strict a =
    with_rule (with_rule (with_tracker_rules strict a) (flag_of (codes "steps")))
    (flag_of (codes "why"))

-- the subcommand `waves`, which needs the files of an archive and a tracker
abbrev pub waves_shape : Bool → Shape
waves_shape strict = (with_explanation (with_form_rules strict (new_app (codes "waves")))).top

-- `track` may be given other rows, of which statuses rows are shown, and how many rows a chunk has
abbrev pub with_report_rules : Bool → App → App
with_report_rules strict a =
    with_rule (with_rule (with_rule (with_rule (with_tracker_rules strict a)
    (option_of (codes "state"))) (option_of (codes "only"))) (flag_of (codes "summary")))
    (option_of (codes "chunk"))

-- the subcommand `track`
abbrev pub track_shape : Bool → Shape
track_shape strict = (with_explanation (with_report_rules strict (new_app (codes "track")))).top

-- a plan needs a message too, and may be given other rows, and the suite that its lines name
abbrev pub with_plan_rules : Bool → App → App
with_plan_rules strict a =
    with_rule (with_rule (with_rule (with_tracker_rules strict a)
    (needed_option strict (codes "message"))) (option_of (codes "state")))
    (option_of (codes "suite"))

-- the subcommand `plan`, which needs the files of an archive, a tracker and a message
abbrev pub plan_shape : Bool → Shape
plan_shape strict = (with_explanation (with_plan_rules strict (new_app (codes "plan")))).top

-- `run` may be given rows, a tracker and a suite as well as an archive
abbrev pub with_desk_rules : App → App
with_desk_rules a =
    with_rule (with_rule (with_rule a (option_of (codes "state"))) (option_of (codes "tracker")))
    (option_of (codes "suite"))

-- how many builders there are, how their builds end, and a journal to go on with
abbrev pub with_crew_rules : App → App
with_crew_rules a =
    with_rule (with_rule (with_rule a (option_of (codes "builders")))
    (option_of (codes "outcomes"))) (option_of (codes "journal"))

-- the subcommand `run`, which needs the files of an archive and may be given all of these
abbrev pub run_shape : Bool → Shape
run_shape strict =
    (with_explanation
    (with_crew_rules (with_desk_rules (with_archive_rules strict (new_app (codes "run")))))).top

-- a desk that lasts needs its file and the files of an archive, may be given what a run's desk is
-- opened with, and may be told to wait for its file
abbrev pub with_lasting_rules : Bool → App → App
with_lasting_rules strict a =
    with_rule (with_desk_rules (with_archive_rules strict
    (with_rule a (needed_option strict (codes "journal"))))) (flag_of (codes "wait"))

-- the subcommand `desk`
abbrev pub desk_shape : Bool → Shape
desk_shape strict = (with_explanation (with_lasting_rules strict (new_app (codes "desk")))).top

-- the program has a version, and wants one of its subcommands
abbrev pub bare_desk : App
bare_desk = on_top (λ s. record s { has_version = true; subcommand_required = true })
    (new_app (codes "transdesk"))

-- the program with its subcommands
abbrev pub desk_by : Bool → App
desk_by strict =
    let counting = with_subcommand (with_subcommand bare_desk simulate_shape) (check_shape strict)
    in
    let tracking = with_subcommand (with_subcommand counting (track_shape strict))
    (waves_shape strict) in
    let running = with_subcommand (with_subcommand tracking (plan_shape strict)) (run_shape strict)
    in
    with_subcommand running (desk_shape strict)

-- the command line that says what words ask for
abbrev pub desk : App
desk = desk_by false

-- the name of the subcommand that was found, if any
abbrev pub name_in : Option (List ℕ × List Row) → Option (List ℕ)
name_in found = option_map (λ p. p.0) found

-- the matches of the subcommand that was found; none if none is named
abbrev pub rows_in : Option (List ℕ × List Row) → List Row
rows_in found = option_map_or (λ p. p.1) found []

-- the subcommand that the words name
abbrev pub asked_of : List (List ℕ) → Option (List ℕ)
asked_of words = name_in (subcommand_of desk words)

-- what the words give to the options of the subcommand that they name
abbrev pub options_of : List (List ℕ) → List Row
options_of words = rows_in (subcommand_of desk words)

-- what is wrong with the words, calls for help and for the version included
abbrev pub faults_of : List (List ℕ) → Kinds
faults_of words = fault_of desk words

-- nothing is wrong with the words, and they name this subcommand
abbrev pub AskFor : List ℕ → List (List ℕ) → Type 0
AskFor name words = (faults_of words ≡ []) × (asked_of words ≡ Some name)

-- whether the option to explain is among these
abbrev pub is_explained : List Row → Bool
is_explained options = is_set (codes "explain") options

-- nothing is wrong with the words, they name this subcommand, and want an explanation or not
pub record AskExplained (name : List ℕ) (explained : Bool) (words : List (List ℕ)) : Type 0 where
  pub ask : AskFor name words
  pub flag : is_explained (options_of words) ≡ explained

-- the words that ask for a subcommand: the program's own name, whatever it is, and the subcommand's
abbrev pub asking_for : List ℕ → List ℕ → List (List ℕ)
asking_for program name = program ∷ name ∷ []

-- the word that asks for an explanation
abbrev pub explaining : Bool → List (List ℕ)
explaining false = []
explaining true = codes "--explain" ∷ []

-- the words that ask for a simulation
abbrev pub SimulationWordsAsk : Type 0
SimulationWordsAsk =
    (program : List ℕ) (explained : Bool)
    → AskExplained (codes "simulate") explained
    (asking_for program (codes "simulate") ++ explaining explained)

-- the options give these paths to the three files
pub record HasFiles (options : List Row) (archs packages sources : List ℕ) : Type 0 where
  pub archs_path : path_in (codes "archs") options ≡ Some archs
  pub packages_path : path_in (codes "packages") options ≡ Some packages
  pub sources_path : path_in (codes "sources") options ≡ Some sources

-- the options of `track`, `waves` or `plan` have these paths, by what is in the folder
pub record HasTracker (present : Present) (options : List Row)
    (archs packages sources tracker : List ℕ) : Type 0 where
  pub files : HasFiles options archs packages sources
  pub tracker_path : path_if present.tracker (codes "tracker") options ≡ Some tracker

-- what waves are asked for with
pub record WavesWords : Type 0 where
  pub archs : List ℕ
  pub packages : List ℕ
  pub sources : List ℕ
  pub tracker : List ℕ
  pub form : WavesForm

-- the options of `waves` are these
pub record HasWaves (present : Present) (options : List Row) (w : WavesWords) : Type 0 where
  pub files : HasTracker present options w.archs w.packages w.sources w.tracker
  pub listed : form_in options ≡ w.form

-- the words ask for these waves
abbrev pub AskForWaves : Present → List (List ℕ) → WavesWords → Type 0
AskForWaves present words w = AskFor (codes "waves") words × HasWaves present (options_of words) w

-- how many rows a piece of the report has: 1 to 1000000
abbrev pub chunk_at : List ℕ → Option ℕ
chunk_at text = number_at 1000000 text >>= λ n. if nat_lt 0 n then Some n else None

-- the chunk that the option gives, if any; `None` if its text isn't a number from 1 to 1000000
abbrev pub chunk_in : Option (List ℕ) → Option (Option ℕ)
chunk_in None = Some None
chunk_in (Some text) = option_map Some (chunk_at text)

-- what a report is asked for with
pub record TrackWords : Type 0 where
  pub archs : List ℕ
  pub packages : List ℕ
  pub sources : List ℕ
  pub tracker : List ℕ
  pub state : Option (List ℕ)
  pub shown : Shown
  pub chunk : Option ℕ

-- the options of `track` are these
pub record HasTrack (present : Present) (options : List Row) (w : TrackWords) : Type 0 where
  pub files : HasTracker present options w.archs w.packages w.sources w.tracker
  pub state_path : path_if present.state (codes "state") options ≡ w.state
  pub statuses : shown_in options ≡ Some w.shown
  pub rows : chunk_in (first_of (codes "chunk") options) ≡ Some w.chunk

-- the words ask for this report
abbrev pub AskForTrack : Present → List (List ℕ) → TrackWords → Type 0
AskForTrack present words w = AskFor (codes "track") words × HasTrack present (options_of words) w

-- how many builders there are at most: as many as a board has seats for
abbrev pub most_builders : ℕ
most_builders = 64

-- the number of builders that a text says
abbrev pub builders_at : List ℕ → Option ℕ
builders_at text = number_at most_builders text

-- how many builders the option gives, 0 if it is left out; `None` if its text is no such number
abbrev pub builders_in : Option (List ℕ) → Option ℕ
builders_in None = Some 0
builders_in (Some text) = builders_at text

-- the suite if none is named
abbrev pub usual_suite : List ℕ
usual_suite = codes "unstable"

-- the suite that is named, else the usual one
abbrev pub suite_in : Option (List ℕ) → List ℕ
suite_in given = unwrap_or given usual_suite

-- what a script runs over
pub record RunWords : Type 0 where
  pub archs : List ℕ
  pub packages : List ℕ
  pub sources : List ℕ
  pub state : Option (List ℕ)
  pub tracker : Option (List ℕ)
  pub suite : List ℕ
  pub builders : ℕ
  pub outcomes : Option (List ℕ)
  pub journal : Option (List ℕ)

-- the options of `run` are these
pub record HasRun (present : Present) (options : List Row) (w : RunWords) : Type 0 where
  pub files : HasFiles options w.archs w.packages w.sources
  pub state_path : path_if present.state (codes "state") options ≡ w.state
  pub tracker_path : path_if present.tracker (codes "tracker") options ≡ w.tracker
  pub suite_name : suite_in (first_of (codes "suite") options) ≡ w.suite
  pub count : builders_in (first_of (codes "builders") options) ≡ Some w.builders
  pub outcomes_path : first_of (codes "outcomes") options ≡ w.outcomes
  pub journal_path : path_if present.journal (codes "journal") options ≡ w.journal

-- the words ask for this run
abbrev pub AskForRun : Present → List (List ℕ) → RunWords → Type 0
AskForRun present words w = AskFor (codes "run") words × HasRun present (options_of words) w

-- `--NAME=PATH`
abbrev pub given : List ℕ → List ℕ → List ℕ
given name path = codes "--" ++ (name ++ (codes "=" ++ path))

-- a path that isn't taken for an option: there is a first byte, and it is no hyphen
abbrev pub IsPlainPath : List ℕ → Type 0
IsPlainPath [] = ⊥
IsPlainPath (x ∷ xs) = (x == 45) ≡ false

-- ---- the words of subcommands

-- `--NAME=VALUE` if there is a value
abbrev pub given_if : List ℕ → Option (List ℕ) → List (List ℕ)
given_if name None = []
given_if name (Some value) = given name value ∷ []

-- the words that give the files of an archive
abbrev pub archive_words : List ℕ → List ℕ → List ℕ → List (List ℕ) → List (List ℕ)
archive_words archs packages sources rest =
    given (codes "archs") archs ∷ given (codes "packages") packages
    ∷ given (codes "sources") sources ∷ rest

-- the words for the form of waves
abbrev pub form_words : WavesForm → List (List ℕ)
form_words form =
    (if form.steps then codes "--steps" ∷ [] else [])
    ++ (if form.why then codes "--why" ∷ [] else [])

-- the words that ask for waves
abbrev pub asking_for_waves : List ℕ → WavesWords → List (List ℕ)
asking_for_waves program w =
    program ∷ codes "waves"
    ∷ archive_words w.archs w.packages w.sources (given (codes "tracker") w.tracker
    ∷ form_words w.form)

-- the words that ask for a report, by what they say of a chunk
abbrev pub asking_for_track : List ℕ → TrackWords → Option (List ℕ) → List (List ℕ)
asking_for_track program w chunk =
    program ∷ codes "track"
    ∷ archive_words w.archs w.packages w.sources
    (given (codes "tracker") w.tracker
    ∷ (given_if (codes "state") w.state ++ given_if (codes "chunk") chunk))

-- the words of a report ask for it, with other rows or without, in chunks or whole, and show every
-- row
abbrev pub TrackWordsAsk : Type 0
TrackWordsAsk =
    (present : Present) (program : List ℕ) (w : TrackWords) (chunk : Option (List ℕ))
    → chunk_in chunk ≡ Some w.chunk → w.shown ≡ all_shown
    → AskForTrack present (asking_for_track program w chunk) w

-- the words that ask for a report over the archive's own rows, with one word more
abbrev pub asking_for_shown : List ℕ → List ℕ → List ℕ → List ℕ → List ℕ → List ℕ
    → List (List ℕ)
asking_for_shown program archs packages sources tracker word =
    program ∷ codes "track"
    ∷ archive_words archs packages sources (given (codes "tracker") tracker ∷ word ∷ [])

-- what they ask for
abbrev pub shown_of : List ℕ → List ℕ → List ℕ → List ℕ → Shown → TrackWords
shown_of archs packages sources tracker shown = record {
  archs = archs;
  packages = packages;
  sources = sources;
  tracker = tracker;
  state = None;
  shown = shown;
  chunk = None;
}

-- they ask for a report of the statuses that the word lists, or of no row
pub record ShownWordsAsk : Type 0 where
  pub only : (present : Present) (program archs packages sources tracker list : List ℕ)
      (shown : Shown) → statuses_at list ≡ Some shown
      → AskForTrack present (asking_for_shown program archs packages sources tracker
      (given (codes "only") list)) (shown_of archs packages sources tracker shown)
  pub summary : (present : Present) (program archs packages sources tracker : List ℕ)
      → AskForTrack present (asking_for_shown program archs packages sources tracker
      (codes "--summary")) (shown_of archs packages sources tracker none_shown)

-- the words that ask for waves ask for them, in each form
abbrev pub WavesWordsAsk : Type 0
WavesWordsAsk =
    (present : Present) (program : List ℕ) (w : WavesWords)
    → AskForWaves present (asking_for_waves program w) w

-- the words that ask for a run over only an archive
abbrev pub asking_for_plain_run : List ℕ → List ℕ → List ℕ → List ℕ → List (List ℕ)
asking_for_plain_run program archs packages sources =
    program ∷ codes "run" ∷ archive_words archs packages sources []

-- the run over only an archive
abbrev pub plain_run : List ℕ → List ℕ → List ℕ → RunWords
plain_run archs packages sources = record {
  archs = archs;
  packages = packages;
  sources = sources;
  state = None;
  tracker = None;
  suite = usual_suite;
  builders = 0;
  outcomes = None;
  journal = None;
}

-- the words that ask for a run over only an archive ask for that
abbrev pub PlainRunWordsAsk : Type 0
PlainRunWordsAsk =
    (present : Present) (program archs packages sources : List ℕ)
    → AskForRun present (asking_for_plain_run program archs packages sources)
    (plain_run archs packages sources)

-- what else may be given to a run: other rows, a tracker, a suite, how many builders, what their
-- builds come to, and a journal to go on with
pub record DeskValues : Type 0 where
  pub state : List ℕ
  pub tracker : List ℕ
  pub suite : List ℕ
  pub builders : List ℕ
  pub outcomes : List ℕ
  pub journal : List ℕ

-- the words that ask for a run with all of these values
abbrev pub asking_for_whole_run : List ℕ → List ℕ → List ℕ → List ℕ → DeskValues → List (List ℕ)
asking_for_whole_run program archs packages sources v =
    program ∷ codes "run" ∷ archive_words archs packages sources
    (given (codes "state") v.state ∷ given (codes "tracker") v.tracker
    ∷ given (codes "suite") v.suite ∷ given (codes "builders") v.builders
    ∷ given (codes "outcomes") v.outcomes ∷ given (codes "journal") v.journal ∷ [])

-- the run with all of these values, by how many builders they say
abbrev pub whole_run : List ℕ → List ℕ → List ℕ → DeskValues → ℕ → RunWords
whole_run archs packages sources v count = record {
  archs = archs;
  packages = packages;
  sources = sources;
  state = Some v.state;
  tracker = Some v.tracker;
  suite = v.suite;
  builders = count;
  outcomes = Some v.outcomes;
  journal = Some v.journal;
}

-- the words that ask for a run with everything that may be given ask for that
abbrev pub WholeRunWordsAsk : Type 0
WholeRunWordsAsk =
    (present : Present) (program archs packages sources : List ℕ) (v : DeskValues) (count : ℕ)
    → builders_at v.builders ≡ Some count
    → AskForRun present (asking_for_whole_run program archs packages sources v)
    (whole_run archs packages sources v count)

-- ---- with an explanation

-- the words of a report ask for it, and for an explanation if and only if `--explain` follows
pub record TrackWordsExplain : Type 0 where
  pub same : (present : Present) (program : List ℕ) (w : TrackWords) (chunk : Option (List ℕ))
      (explained : Bool) → chunk_in chunk ≡ Some w.chunk → w.shown ≡ all_shown
      → AskForTrack present (asking_for_track program w chunk ++ explaining explained) w
  pub flag : (program : List ℕ) (w : TrackWords) (chunk : Option (List ℕ)) (explained : Bool)
      → is_explained (options_of (asking_for_track program w chunk ++ explaining explained))
      ≡ explained

-- the words of waves ask for them, and for an explanation if and only if `--explain` follows
pub record WavesWordsExplain : Type 0 where
  pub same : (present : Present) (program : List ℕ) (w : WavesWords) (explained : Bool)
      → AskForWaves present (asking_for_waves program w ++ explaining explained) w
  pub flag : (program : List ℕ) (w : WavesWords) (explained : Bool)
      → is_explained (options_of (asking_for_waves program w ++ explaining explained))
      ≡ explained

-- the words of a plain run ask for it, and for an explanation if and only if `--explain` follows
pub record RunWordsExplain : Type 0 where
  pub same : (present : Present) (program archs packages sources : List ℕ) (explained : Bool)
      → AskForRun present
      (asking_for_plain_run program archs packages sources ++ explaining explained)
      (plain_run archs packages sources)
  pub flag : (program archs packages sources : List ℕ) (explained : Bool)
      → is_explained (options_of
      (asking_for_plain_run program archs packages sources ++ explaining explained)) ≡ explained
