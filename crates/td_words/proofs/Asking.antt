-- What `clap` reads in the words that ask for a simulation, a report, waves or a run.
use Rattle.td_words.specs.declared.request.WordsFault.TheVariants.{NoMemory}
use Rattle.td_words.specs.Asked.{IsUsage}
use Rattle.std.proofs.Common.{◌≡◌, ℕ, Bool, true, false, List, [], ◌++◌, Option, Some, None, Result}
use Rattle.std.proofs.Common.{Ok, Err, IfOk, MatchResult, codes, option_map, unwrap_or}
use Rattle.std.proofs.Common.{refl, sym, ap, subst, inl, inr, ◌∙◌, append-nil}
use Rattle.std.specs.Borrow.{Bor}
use Rattle.clap.specs.Faults.{fault_of, is_simple_and_free}
use Rattle.clap.specs.Kinds.{HasKind}
use Rattle.clap.specs.Values.{kind_of}
use Rattle.clap.specs.Matches.{found_of}
use Rattle.clap.specs.Walk.{Row, first_of, rows_of}
use Rattle.clap.specs.Simple.{App, HasMatchesOf, subcommand_of, subcommand_rows_of}
use Rattle.clap.specs.declared.error.Error.{Error}
use Rattle.clap.specs.declared.error.kind.ErrorKind.TheVariants.{OutOfMemory}
use Rattle.clap.specs.declared.parser.matches.ArgMatches.{ArgMatches}
use Rattle.clap.proofs.OnLiterals.{clap_on_literals}
use Rattle.td_report.specs.Report.{all_shown}
use Rattle.td_report.specs.declared.shown.Shown.{Shown}
use Rattle.td_words.specs.Folder.{path_if, path_in}
use Rattle.td_words.specs.declared.present.Present.{Present}
use Rattle.td_words.specs.declared.request.Call.{Call}
use Rattle.td_words.specs.declared.request.Request.{Request}
use Rattle.td_words.specs.CommandLine.{AskFor, AskForRun, AskForTrack, AskForWaves}
use Rattle.td_words.specs.CommandLine.{HasFiles, HasRun, HasTrack, HasTracker}
use Rattle.td_words.specs.CommandLine.{HasWaves, WavesWords}
use Rattle.td_words.specs.CommandLine.{PlainRunWordsAsk, RunWordsExplain, SimulationWordsAsk}
use Rattle.td_words.specs.CommandLine.{TrackWords, TrackWordsAsk, TrackWordsExplain, WavesWordsAsk}
use Rattle.td_words.specs.CommandLine.{WavesWordsExplain, WholeRunWordsAsk}
use Rattle.td_words.specs.CommandLine.{asking_for_plain_run, asking_for_track, asking_for_waves}
use Rattle.td_words.specs.CommandLine.{chunk_in, desk, explaining, faults_of, is_explained}
use Rattle.td_words.specs.CommandLine.{RunWords, builders_in, options_of, plain_run, rows_in}
use Rattle.td_words.specs.CommandLine.{ShownWordsAsk, suite_in}
use Rattle.td_words.specs.ShownWords.{form_in, shown_in}
use Rattle.td_words.specs.declared.request.WordsFault.{WordsFault}
use Rattle.td_words.specs.Asked.{Asks, IsGivenBy, RequestWords, call_as}

pub is_plain : is_simple_and_free desk ≡ true
unfolding clap_on_literals
is_plain = refl

-- what the matches hold is what the words ask for, by the command that was built
pub rows_are_asked : (built : App) (m : ArgMatches) (words : List (List ℕ)) → built ≡ desk
    → HasMatchesOf built words m → subcommand_rows_of m ≡ subcommand_of desk words
unfolding clap_on_literals
rows_are_asked built m words same has =
    ((subst (λ a. HasMatchesOf a words m) same has) refl).1

-- what holds of the answer that has a request holds of the call that has it
pub holds_of_call : (P : Request → Type 0) (Q : WordsFault → Type 0) (r : Result Request WordsFault)
    (explained : Bool) (call : Result Call WordsFault) → call ≡ call_as r explained
    → MatchResult r P Q → MatchResult call (λ c. P c.request) Q
holds_of_call P Q (Ok request) explained call is holds =
    subst (λ c. MatchResult c (λ x. P x.request) Q) (sym is) holds
holds_of_call P Q (Err fault) explained call is holds =
    subst (λ c. MatchResult c (λ x. P x.request) Q) (sym is) holds

pub only_of_call : (P : Request → Type 0) (r : Result Request WordsFault) (explained : Bool)
    (call : Result Call WordsFault) → call ≡ call_as r explained
    → IfOk r P → IfOk call (λ c. P c.request)
only_of_call P (Ok request) explained call is holds =
    subst (λ c. IfOk c (λ x. P x.request)) (sym is) holds
only_of_call P (Err fault) explained call is holds =
    subst (λ c. IfOk c (λ x. P x.request)) (sym is) tt

pub flag_of_call : (r : Result Request WordsFault) (explained : Bool)
    (call : Result Call WordsFault) → call ≡ call_as r explained
    → IfOk call (λ c. c.explained ≡ explained)
flag_of_call (Ok request) explained call is =
    subst (λ c. IfOk c (λ x. x.explained ≡ explained)) (sym is) refl
flag_of_call (Err fault) explained call is =
    subst (λ c. IfOk c (λ x. x.explained ≡ explained)) (sym is) tt

-- the words of a simulation ask for it
pub asks_for_simulation : SimulationWordsAsk
unfolding clap_on_literals
asks_for_simulation program false = record { ask = (refl, refl); flag = refl }
asks_for_simulation program true = record { ask = (refl, refl); flag = refl }

-- ---- what the options of a report and of a run are

-- what is found of each option of a report
abbrev pub AreOptions : Present → List Row → List ℕ → List ℕ → List ℕ → List ℕ → Option (List ℕ)
    → Option (List ℕ) → Type 0
AreOptions present options a p s t state chunk =
    (path_in (codes "archs") options ≡ Some a)
    × (path_in (codes "packages") options ≡ Some p)
    × (path_in (codes "sources") options ≡ Some s)
    × (path_if present.tracker (codes "tracker") options ≡ Some t)
    × (path_if present.state (codes "state") options ≡ state)
    × (first_of (codes "chunk") options ≡ chunk)
    × (shown_in options ≡ Some all_shown)

pub has_tracker : (present : Present) (options : List Row) (a p s t : List ℕ)
    → HasFiles options a p s → path_if present.tracker (codes "tracker") options ≡ Some t
    → HasTracker present options a p s t
has_tracker present options a p s t files tracker = record { files = files; tracker_path = tracker }

-- the options have the paths of an archive and of a tracker
pub tracked : (present : Present) (options : List Row) (a p s t : List ℕ)
    → path_in (codes "archs") options ≡ Some a → path_in (codes "packages") options ≡ Some p
    → path_in (codes "sources") options ≡ Some s
    → path_if present.tracker (codes "tracker") options ≡ Some t
    → HasTracker present options a p s t
tracked present options a p s t archs packages sources tracker =
    has_tracker present options a p s t
    (record { archs_path = archs; packages_path = packages; sources_path = sources }) tracker

-- the options have the paths of an archive
pub archived : (options : List Row) (a p s : List ℕ) → path_in (codes "archs") options ≡ Some a
    → path_in (codes "packages") options ≡ Some p → path_in (codes "sources") options ≡ Some s
    → HasFiles options a p s
archived options a p s archs packages sources =
    record { archs_path = archs; packages_path = packages; sources_path = sources }

-- waves with these values
abbrev waves_as : List ℕ → List ℕ → List ℕ → List ℕ → Bool → Bool → WavesWords
waves_as a p s t steps why = record {
  archs = a;
  packages = p;
  sources = s;
  tracker = t;
  form = record { steps = steps; why = why };
}

pub has_waves : (present : Present) (options : List Row) (w : WavesWords)
    → HasTracker present options w.archs w.packages w.sources w.tracker
    → form_in options ≡ w.form → HasWaves present options w
has_waves present options w files listed = record { files = files; listed = listed }

-- a report with these values that shows every row
abbrev pub whole_report : List ℕ → List ℕ → List ℕ → List ℕ → Option (List ℕ) → Option ℕ
    → TrackWords
whole_report a p s t state rows = record {
  archs = a;
  packages = p;
  sources = s;
  tracker = t;
  state = state;
  shown = all_shown;
  chunk = rows;
}

pub has_track : (present : Present) (options : List Row) (a p s t : List ℕ)
    (state chunk : Option (List ℕ)) (rows : Option ℕ)
    → AreOptions present options a p s t state chunk → chunk_in chunk ≡ Some rows
    → HasTrack present options (whole_report a p s t state rows)
has_track present options a p s t state chunk rows are same =
    record {
      files = has_tracker present options a p s t
          (record { archs_path = are.0; packages_path = are.1; sources_path = are.2 }) are.3;
      state_path = are.4;
      statuses = are.6;
      rows = ap chunk_in are.5 ∙ same;
    }

-- a report that shows every row is such a one
pub is_whole : (w : TrackWords) → w.shown ≡ all_shown
    → whole_report w.archs w.packages w.sources w.tracker w.state w.chunk ≡ w
is_whole w all = λ i. record {
  archs = w.archs;
  packages = w.packages;
  sources = w.sources;
  tracker = w.tracker;
  state = w.state;
  shown = sym all i;
  chunk = w.chunk;
}

pub has_run : (present : Present) (options : List Row) (w : RunWords)
    → HasFiles options w.archs w.packages w.sources
    → path_if present.state (codes "state") options ≡ w.state
    → path_if present.tracker (codes "tracker") options ≡ w.tracker
    → suite_in (first_of (codes "suite") options) ≡ w.suite
    → builders_in (first_of (codes "builders") options) ≡ Some w.builders
    → first_of (codes "outcomes") options ≡ w.outcomes
    → path_if present.journal (codes "journal") options ≡ w.journal → HasRun present options w
has_run present options w files state tracker suite count outcomes journal =
    record {
      files = files;
      state_path = state;
      tracker_path = tracker;
      suite_name = suite;
      count = count;
      outcomes_path = outcomes;
      journal_path = journal;
    }

-- the words of a whole run ask for it
pub asks_for_whole_run : WholeRunWordsAsk
unfolding clap_on_literals
asks_for_whole_run present program archs packages sources v count same = (
  (refl, refl),
  (has_run present _ _ (record { archs_path = refl; packages_path = refl; sources_path = refl })
      refl refl refl same refl refl),
)

-- ---- with an explanation

track_asked : (present : Present) (program a p s t : List ℕ) (state chunk : Option (List ℕ))
    (explained : Bool)
    → (let words = asking_for_track program (whole_report a p s t state None) chunk
    ++ explaining explained in
    AskFor (codes "track") words × AreOptions present (options_of words) a p s t state chunk)
unfolding clap_on_literals
track_asked present program a p s t None None false =
    ((refl, refl), (refl, refl, refl, refl, refl, refl, refl))
track_asked present program a p s t None (Some chunk) false =
    ((refl, refl), (refl, refl, refl, refl, refl, refl, refl))
track_asked present program a p s t (Some state) None false =
    ((refl, refl), (refl, refl, refl, refl, refl, refl, refl))
track_asked present program a p s t (Some state) (Some chunk) false =
    ((refl, refl), (refl, refl, refl, refl, refl, refl, refl))
track_asked present program a p s t None None true =
    ((refl, refl), (refl, refl, refl, refl, refl, refl, refl))
track_asked present program a p s t None (Some chunk) true =
    ((refl, refl), (refl, refl, refl, refl, refl, refl, refl))
track_asked present program a p s t (Some state) None true =
    ((refl, refl), (refl, refl, refl, refl, refl, refl, refl))
track_asked present program a p s t (Some state) (Some chunk) true =
    ((refl, refl), (refl, refl, refl, refl, refl, refl, refl))

track_same : (present : Present) (program : List ℕ) (w : TrackWords) (chunk : Option (List ℕ))
    (explained : Bool) → chunk_in chunk ≡ Some w.chunk → w.shown ≡ all_shown
    → AskForTrack present (asking_for_track program w chunk ++ explaining explained) w
track_same present program w chunk explained same all =
    let words = asking_for_track program w chunk ++ explaining explained in
    let asked = track_asked present program w.archs w.packages w.sources w.tracker w.state chunk
    explained in (
      asked.0,
      subst (HasTrack present (options_of words)) (is_whole w all)
          (has_track present (options_of words) w.archs w.packages w.sources w.tracker w.state chunk
          w.chunk asked.1 same),
    )

track_flag : (program a p s t : List ℕ) (state chunk : Option (List ℕ)) (shown : Shown)
    (rows : Option ℕ) (explained : Bool)
    → (let w : TrackWords = record {
      archs = a;
      packages = p;
      sources = s;
      tracker = t;
      state = state;
      shown = shown;
      chunk = rows;
    } in
    is_explained (options_of (asking_for_track program w chunk ++ explaining explained))
    ≡ explained)
unfolding clap_on_literals
track_flag program a p s t None None shown rows false = refl
track_flag program a p s t None (Some chunk) shown rows false = refl
track_flag program a p s t (Some state) None shown rows false = refl
track_flag program a p s t (Some state) (Some chunk) shown rows false = refl
track_flag program a p s t None None shown rows true = refl
track_flag program a p s t None (Some chunk) shown rows true = refl
track_flag program a p s t (Some state) None shown rows true = refl
track_flag program a p s t (Some state) (Some chunk) shown rows true = refl

pub track_explains : TrackWordsExplain
track_explains = record {
  same = track_same;
  flag = λ program w chunk explained.
      track_flag program w.archs w.packages w.sources w.tracker w.state chunk w.shown w.chunk
      explained;
}

-- the words that say which rows are shown ask for that
pub shown_words_ask : ShownWordsAsk
unfolding clap_on_literals
shown_words_ask = record {
  only = λ present program a p s t list shown same. (
    (refl, refl),
    record {
      files = has_tracker present _ _ _ _ _
          (record { archs_path = refl; packages_path = refl; sources_path = refl }) refl;
      state_path = refl;
      statuses = same;
      rows = refl;
    },
  );
  summary = λ present program a p s t. (
    (refl, refl),
    record {
      files = has_tracker present _ _ _ _ _
          (record { archs_path = refl; packages_path = refl; sources_path = refl }) refl;
      state_path = refl;
      statuses = refl;
      rows = refl;
    },
  );
}

pub waves_explain : WavesWordsExplain
unfolding clap_on_literals
waves_explain = record { same = same; flag = flag }
  where
    -- the words that ask for the form of waves, in each form
    of_form : (present : Present) (program a p s t : List ℕ) (steps why explained : Bool)
        → AskForWaves present (asking_for_waves program (waves_as a p s t steps why)
        ++ explaining explained) (waves_as a p s t steps why)
    of_form present program a p s t false false false = (
      (refl, refl),
      has_waves present _ _ (tracked present _ _ _ _ _ refl refl refl refl) refl,
    )
    of_form present program a p s t false false true = (
      (refl, refl),
      has_waves present _ _ (tracked present _ _ _ _ _ refl refl refl refl) refl,
    )
    of_form present program a p s t false true false = (
      (refl, refl),
      has_waves present _ _ (tracked present _ _ _ _ _ refl refl refl refl) refl,
    )
    of_form present program a p s t false true true = (
      (refl, refl),
      has_waves present _ _ (tracked present _ _ _ _ _ refl refl refl refl) refl,
    )
    of_form present program a p s t true false false = (
      (refl, refl),
      has_waves present _ _ (tracked present _ _ _ _ _ refl refl refl refl) refl,
    )
    of_form present program a p s t true false true = (
      (refl, refl),
      has_waves present _ _ (tracked present _ _ _ _ _ refl refl refl refl) refl,
    )
    of_form present program a p s t true true false = (
      (refl, refl),
      has_waves present _ _ (tracked present _ _ _ _ _ refl refl refl refl) refl,
    )
    of_form present program a p s t true true true = (
      (refl, refl),
      has_waves present _ _ (tracked present _ _ _ _ _ refl refl refl refl) refl,
    )

    same : (present : Present) (program : List ℕ) (w : WavesWords) (explained : Bool)
        → AskForWaves present (asking_for_waves program w ++ explaining explained) w
    same present program w explained =
        of_form present program w.archs w.packages w.sources w.tracker w.form.steps w.form.why
        explained

    is_flag : (program a p s t : List ℕ) (steps why explained : Bool)
        → is_explained (options_of
        (asking_for_waves program (waves_as a p s t steps why) ++ explaining explained))
        ≡ explained
    is_flag program a p s t false false false = refl
    is_flag program a p s t false false true = refl
    is_flag program a p s t false true false = refl
    is_flag program a p s t false true true = refl
    is_flag program a p s t true false false = refl
    is_flag program a p s t true false true = refl
    is_flag program a p s t true true false = refl
    is_flag program a p s t true true true = refl

    flag : (program : List ℕ) (w : WavesWords) (explained : Bool)
        → is_explained (options_of (asking_for_waves program w ++ explaining explained))
        ≡ explained
    flag program w explained =
        is_flag program w.archs w.packages w.sources w.tracker w.form.steps w.form.why explained

pub run_explains : RunWordsExplain
unfolding clap_on_literals
run_explains = record { same = same; flag = flag }
  where
    same : (present : Present) (program archs packages sources : List ℕ) (explained : Bool)
        → AskForRun present
        (asking_for_plain_run program archs packages sources ++ explaining explained)
        (plain_run archs packages sources)
    same present program archs packages sources false = (
      (refl, refl),
      (has_run present _ _ (record { archs_path = refl; packages_path = refl; sources_path = refl })
          refl refl refl refl refl refl),
    )
    same present program archs packages sources true = (
      (refl, refl),
      (has_run present _ _ (record { archs_path = refl; packages_path = refl; sources_path = refl })
          refl refl refl refl refl refl),
    )

    flag : (program archs packages sources : List ℕ) (explained : Bool)
        → is_explained (options_of
        (asking_for_plain_run program archs packages sources ++ explaining explained)) ≡ explained
    flag program archs packages sources false = refl
    flag program archs packages sources true = refl

-- ---- without one

pub asks_for_track : TrackWordsAsk
asks_for_track present program w chunk same all =
    subst (λ words. AskForTrack present words w) (append-nil (asking_for_track program w chunk))
    (track_same present program w chunk false same all)

pub asks_for_waves : WavesWordsAsk
asks_for_waves present program w =
    subst (λ words. AskForWaves present words w) (append-nil (asking_for_waves program w))
    (waves_explain.same present program w false)

pub asks_for_plain_run : PlainRunWordsAsk
asks_for_plain_run present program archs packages sources =
    run_explains.same present program archs packages sources false

-- ---- the matches of a subcommand

-- the matches of a subcommand, as they are in the matches that have it
pub rows_of_matches : (m : ArgMatches) (o : Option (Bor (List ℕ) × Bor ArgMatches))
    (p : Bor (List ℕ) × Bor ArgMatches) → o ≡ Some p
    → option_map (λ q. rows_of (found_of q.1.now)) o ≡ option_map (λ q. q.1) (subcommand_rows_of m)
    → rows_in (subcommand_rows_of m) ≡ rows_of (found_of p.1.now)
rows_of_matches m o p is same =
    go (subcommand_rows_of m) (sym same ∙ ap (option_map (λ q. rows_of (found_of q.1.now))) is)
  where
    go : (found : Option (List ℕ × List Row))
        → option_map (λ q. q.1) found ≡ Some (rows_of (found_of p.1.now))
        → rows_in found ≡ rows_of (found_of p.1.now)
    go None e = cc
    go (Some q) e = ap (λ (r : Option (List Row)). unwrap_or r []) e

-- what a subcommand asks for, the words do
pub asks : (present : Present) (words : List (List ℕ)) (found : Option (List ℕ × List Row))
    (asked : RequestWords) → found ≡ subcommand_of desk words → faults_of words ≡ []
    → IsGivenBy present found asked → Asks present words asked
asks present words found asked same fine is =
    (fine, subst (λ o. IsGivenBy present o asked) same is)

-- what `clap` says of words by the command that was built, it says of them by `desk`
pub said_of_words : (Says : App → Type 0) (built : App) → built ≡ desk
    → (is_simple_and_free built ≡ true → Says built) → Says desk
said_of_words Says built same says =
    subst (λ a. is_simple_and_free a ≡ true → Says a) same says is_plain

-- if nothing is wrong with the words, the error is that memory ran out
pub no_kind : (e : Error) → HasKind [] e → kind_of e ≡ OutOfMemory
no_kind e (inl memory) = memory
no_kind e (inr among) = absurd among

pub only_memory : (built : App) (words : List (List ℕ)) (e : Error) → built ≡ desk
    → faults_of words ≡ [] → (is_simple_and_free built ≡ true → HasKind (fault_of built words) e)
    → kind_of e ≡ OutOfMemory
only_memory built words e same none kinds =
    no_kind e (subst (λ k. HasKind k e) none
    (said_of_words (λ a. HasKind (fault_of a words) e) built same kinds))

-- a fault of missing memory counts as one with any text
pub memory_said : (fault : WordsFault) (text : List ℕ) → fault ≡ NoMemory → IsUsage fault text
memory_said fault text is = subst (λ e. IsUsage e text) (sym is) tt
