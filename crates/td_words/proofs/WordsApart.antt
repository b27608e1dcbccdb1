-- The words of each subcommand ask for it with their values as words of their own.
use Rattle.std.proofs.Common.{◌≡◌, ℕ, false, List, [], ◌∷◌, Option, Some, None, unwrap_or, codes}
use Rattle.std.proofs.Common.{refl, sym, ap, subst, ◌∙◌}
use Rattle.std.specs.Prelude.{find}
use Rattle.std.specs.List.{fold}
use Rattle.std.specs.Str.{bytes_eq}
use Rattle.clap.specs.Faults.{level_fault}
use Rattle.clap.specs.Kinds.{Kinds, or_else}
use Rattle.clap.specs.Walk.{Row, finished, nothing_held, walk_from}
use Rattle.clap.specs.Simple.{Shape, built, subcommand_of}
use Rattle.clap.proofs.OnLiterals.{clap_on_literals}
use Rattle.td_words.specs.CheckWords.{HasCheck, SeparateWordsAsk, check_apart}
use Rattle.td_words.specs.CommandLine.{AskFor, AskForTrack, DeskValues}
use Rattle.td_words.specs.CommandLine.{HasRun, HasTrack, HasWaves, IsPlainPath}
use Rattle.td_words.specs.CommandLine.{check_shape, chunk_in}
use Rattle.td_words.specs.CommandLine.{desk, faults_of, name_in, options_of, plain_run, plan_shape}
use Rattle.td_words.specs.CommandLine.{rows_in, run_shape, suite_in, track_shape, waves_shape}
use Rattle.td_words.specs.CommandLine.{whole_run}
use Rattle.td_words.specs.PlanWords.{AreLineWords, AskForPlan, HasPlan, PlanWords}
use Rattle.td_words.specs.PlanWords.{SeparatePlanWordsAsk, plan_apart}
use Rattle.td_words.specs.WordsApart.{AreDeskPlain, ArePlain, IsPlainIfGiven}
use Rattle.td_words.specs.WordsApart.{SeparatePlainRunWordsAsk, SeparateTrackWordsAsk}
use Rattle.td_words.specs.WordsApart.{SeparateWavesWordsAsk, SeparateWholeRunWordsAsk}
use Rattle.td_words.specs.WordsApart.{plain_run_apart, track_apart, waves_apart, whole_run_apart}
use Rattle.td_words.specs.declared.present.Present.{Present}
use Rattle.td_words.proofs.Asking.{AreOptions, has_run, has_track, has_waves, is_whole, tracked}
use Rattle.td_words.proofs.Asking.{whole_report}
use Rattle.td_words.proofs.CheckAsking.{has_check}
use Rattle.td_words.proofs.Apart.{Given, Opens, end_fault, ended, level_passes, stepped, walk_is}
use Rattle.td_words.proofs.Apart.{words_of}
use Rattle.td_words.proofs.PlanAsking.{ArePlanOptions, has_plan}

-- a subcommand as it is built
abbrev pub built_as : List ℕ → Shape → Shape
built_as name shape = unwrap_or (find (λ s. bytes_eq s.name name) (built desk).subs) shape

-- the files of an archive, and what follows them
abbrev pub archive_given : List ℕ → List ℕ → List ℕ → List Given → List Given
archive_given a p s more = (codes "archs", a) ∷ (codes "packages", p) ∷ (codes "sources", s) ∷ more

-- what a subcommand is entered with, once the words after it are walked through
abbrev pub entered : List ℕ → Shape → List Given → Option (List ℕ × List Row)
entered name b gs =
    Some (name, finished b.rules (fold (stepped b) (walk_from nothing_held) (words_of gs)).held)

-- what may be wrong with these words
abbrev pub faults_in : Shape → List Given → Kinds
faults_in b gs = or_else (level_fault b [] nothing_held (words_of gs) false []) []

-- if no value is taken for an option, the words ask for the subcommand, and give these values
pub asked_by : (Has : List Row → Type 0) (name : List ℕ) (b : Shape) (words : List (List ℕ))
    (gs : List Given) → subcommand_of desk words ≡ entered name b gs
    → faults_of words ≡ faults_in b gs → end_fault b gs ≡ []
    → Opens b (walk_from nothing_held) gs → Has (finished b.rules (ended b gs).held)
    → AskFor name words × Has (options_of words)
asked_by Has name b words gs enters fails ends opens has =
    let found = enters ∙ ap (λ w. Some (name, finished b.rules w.held))
    (walk_is b (walk_from nothing_held) gs opens) in (
      (fails ∙ ap (λ kinds. or_else kinds []) (level_passes b gs opens ends), ap name_in found),
      subst (λ o. Has (rows_in o)) (sym found) has,
    )

-- ---- check

pub asks_apart : SeparateWordsAsk
unfolding clap_on_literals
asks_apart program w plain none h =
    asked_by (λ o. HasCheck o w) (codes "check") (built_as (codes "check") (check_shape false))
    (check_apart program w) (archive_given w.archs w.packages w.sources []) refl refl refl
    (refl, refl, h.archs_plain, (refl, refl, h.packages_plain, (refl, refl, h.sources_plain, tt)))
    (has_check _ w (record { archs_path = refl; packages_path = refl; sources_path = refl })
    (sym plain) (sym none) refl)

-- ---- waves

pub asks_for_waves_apart : SeparateWavesWordsAsk
unfolding clap_on_literals
asks_for_waves_apart present program w levels h pt =
    asked_by (λ o. HasWaves present o w) (codes "waves")
    (built_as (codes "waves") (waves_shape false))
    (waves_apart program w)
    (archive_given w.archs w.packages w.sources ((codes "tracker", w.tracker) ∷ [])) refl refl
    refl (
      refl,
      refl,
      h.archs_plain,
      (refl, refl, h.packages_plain, (refl, refl, h.sources_plain, (refl, refl, pt, tt))),
    )
    (has_waves present _ w (tracked present _ _ _ _ _ refl refl refl refl) (sym levels))

-- ---- track

abbrev built_track : Shape
built_track = built_as (codes "track") (track_shape false)

abbrev pub if_given : List ℕ → Option (List ℕ) → List Given → List Given
if_given name None more = more
if_given name (Some value) more = (name, value) ∷ more

abbrev track_more : List ℕ → Option (List ℕ) → Option (List ℕ) → List Given
track_more t state chunk =
    (codes "tracker", t) ∷ if_given (codes "state") state (if_given (codes "chunk") chunk [])

module _ (present : Present) (program a p s t : List ℕ) (rows : Option ℕ) (h : ArePlain a p s) where
  abbrev track_given : Option (List ℕ) → Option (List ℕ) → List Given
  track_given state chunk = archive_given a p s (track_more t state chunk)

  abbrev track_words : Option (List ℕ) → Option (List ℕ) → List (List ℕ)
  track_words state chunk = track_apart program (whole_report a p s t state rows) chunk

  -- the files of an archive are no options, and what follows them decides
  track_archive : (more : List Given)
      → Opens built_track (ended built_track (archive_given a p s [])) more
      → Opens built_track (walk_from nothing_held) (archive_given a p s more)
  unfolding clap_on_literals
  track_archive more opens = (
    refl,
    refl,
    h.archs_plain,
    (refl, refl, h.packages_plain, (refl, refl, h.sources_plain, opens)),
  )

  track_by : (state chunk : Option (List ℕ)) → chunk_in chunk ≡ Some rows
      → subcommand_of desk (track_words state chunk)
      ≡ entered (codes "track") built_track (track_given state chunk)
      → faults_of (track_words state chunk) ≡ faults_in built_track (track_given state chunk)
      → end_fault built_track (track_given state chunk) ≡ []
      → AreOptions present
      (finished built_track.rules (ended built_track (track_given state chunk)).held) a
      p s t state chunk
      → Opens built_track (ended built_track (archive_given a p s [])) (track_more t state chunk)
      → AskForTrack present (track_words state chunk) (whole_report a p s t state rows)
  track_by state chunk same enters fails ends are opens =
      asked_by (λ o. HasTrack present o (whole_report a p s t state rows))
      (codes "track") built_track
      (track_words state chunk) (track_given state chunk) enters fails ends
      (track_archive (track_more t state chunk) opens)
      (has_track present _ a p s t state chunk rows are same)

  track_asks : (state chunk : Option (List ℕ)) → chunk_in chunk ≡ Some rows → IsPlainPath t
      → IsPlainIfGiven state → IsPlainIfGiven chunk
      → AskForTrack present (track_words state chunk) (whole_report a p s t state rows)
  unfolding clap_on_literals
  track_asks None None same pt ps pc =
      track_by None None same refl refl refl (refl, refl, refl, refl, refl, refl, refl)
      (refl, refl, pt, tt)
  track_asks None (Some c) same pt ps pc =
      track_by None (Some c) same refl refl refl (refl, refl, refl, refl, refl, refl, refl)
      (refl, refl, pt, (refl, refl, pc, tt))
  track_asks (Some x) None same pt ps pc =
      track_by (Some x) None same refl refl refl (refl, refl, refl, refl, refl, refl, refl)
      (refl, refl, pt, (refl, refl, ps, tt))
  track_asks (Some x) (Some c) same pt ps pc =
      track_by (Some x) (Some c) same refl refl refl (refl, refl, refl, refl, refl, refl, refl)
      (refl, refl, pt, (refl, refl, ps, (refl, refl, pc, tt)))

pub asks_for_track_apart : SeparateTrackWordsAsk
asks_for_track_apart present program w chunk same all plain pt ps pc =
    subst (AskForTrack present (track_apart program w chunk)) (is_whole w all)
    (track_asks present program w.archs w.packages w.sources w.tracker w.chunk plain w.state chunk
    same pt
    ps pc)

-- ---- plan

abbrev built_plan : Shape
built_plan = built_as (codes "plan") (plan_shape false)

abbrev plan_more : List ℕ → List ℕ → Option (List ℕ) → Option (List ℕ) → List Given
plan_more t message state suite =
    (codes "tracker", t) ∷ (codes "message", message)
    ∷ if_given (codes "state") state (if_given (codes "suite") suite [])

abbrev plan_words_with : List ℕ → List ℕ → List ℕ → List ℕ → List ℕ → List ℕ → Option (List ℕ)
    → PlanWords
plan_words_with a p s t message name state = record {
  archs = a;
  packages = p;
  sources = s;
  tracker = t;
  state = state;
  message = message;
  suite = name;
}

module _ (present : Present) (program a p s t message name : List ℕ) (h : ArePlain a p s) where
  abbrev plan_given : Option (List ℕ) → Option (List ℕ) → List Given
  plan_given state suite = archive_given a p s (plan_more t message state suite)

  abbrev plan_words : Option (List ℕ) → Option (List ℕ) → List (List ℕ)
  plan_words state suite = plan_apart program (plan_words_with a p s t message name state) suite

  -- the files of an archive are no options, and what follows them decides
  plan_archive : (more : List Given)
      → Opens built_plan (ended built_plan (archive_given a p s [])) more
      → Opens built_plan (walk_from nothing_held) (archive_given a p s more)
  unfolding clap_on_literals
  plan_archive more opens = (
    refl,
    refl,
    h.archs_plain,
    (refl, refl, h.packages_plain, (refl, refl, h.sources_plain, opens)),
  )

  plan_by : (state suite : Option (List ℕ)) → suite_in suite ≡ name → AreLineWords message name
      → subcommand_of desk (plan_words state suite)
      ≡ entered (codes "plan") built_plan (plan_given state suite)
      → faults_of (plan_words state suite) ≡ faults_in built_plan (plan_given state suite)
      → end_fault built_plan (plan_given state suite) ≡ []
      → ArePlanOptions present
      (finished built_plan.rules (ended built_plan (plan_given state suite)).held)
      a p s t message state suite
      → Opens built_plan (ended built_plan (archive_given a p s []))
      (plan_more t message state suite)
      → AskForPlan present (plan_words state suite) (plan_words_with a p s t message name state)
  plan_by state suite same line_words enters fails ends are opens =
      asked_by (λ o. HasPlan present o (plan_words_with a p s t message name state)) (codes "plan")
      built_plan (plan_words state suite) (plan_given state suite) enters fails ends
      (plan_archive (plan_more t message state suite) opens)
      (has_plan present _ (plan_words_with a p s t message name state) suite are same line_words)

  plan_asks : (state suite : Option (List ℕ)) → suite_in suite ≡ name → AreLineWords message name
      → IsPlainPath t → IsPlainPath message → IsPlainIfGiven state → IsPlainIfGiven suite
      → AskForPlan present (plan_words state suite) (plan_words_with a p s t message name state)
  unfolding clap_on_literals
  plan_asks None None same fine pt pm ps pu =
      plan_by None None same fine refl refl refl (refl, refl, refl, refl, refl, refl, refl)
      (refl, refl, pt, (refl, refl, pm, tt))
  plan_asks None (Some u) same fine pt pm ps pu =
      plan_by None (Some u) same fine refl refl refl (refl, refl, refl, refl, refl, refl, refl)
      (refl, refl, pt, (refl, refl, pm, (refl, refl, pu, tt)))
  plan_asks (Some x) None same fine pt pm ps pu =
      plan_by (Some x) None same fine refl refl refl (refl, refl, refl, refl, refl, refl, refl)
      (refl, refl, pt, (refl, refl, pm, (refl, refl, ps, tt)))
  plan_asks (Some x) (Some u) same fine pt pm ps pu =
      plan_by (Some x) (Some u) same fine refl refl refl (refl, refl, refl, refl, refl, refl, refl)
      (refl, refl, pt, (refl, refl, pm, (refl, refl, ps, (refl, refl, pu, tt))))

pub asks_for_plan_apart : SeparatePlanWordsAsk
asks_for_plan_apart present program w suite same line_words plain pt pm ps pu =
    plan_asks present program w.archs w.packages w.sources w.tracker w.message w.suite plain w.state
    suite
    same line_words pt pm ps pu

-- ---- run

abbrev built_run : Shape
built_run = built_as (codes "run") (run_shape false)

run_opens : (a p s : List ℕ) (more : List Given) → ArePlain a p s
    → Opens built_run (ended built_run (archive_given a p s [])) more
    → Opens built_run (walk_from nothing_held) (archive_given a p s more)
unfolding clap_on_literals
run_opens a p s more h opens = (
  refl,
  refl,
  h.archs_plain,
  (refl, refl, h.packages_plain, (refl, refl, h.sources_plain, opens)),
)

pub asks_for_plain_run_apart : SeparatePlainRunWordsAsk
unfolding clap_on_literals
asks_for_plain_run_apart present program a p s plain =
    asked_by (λ o. HasRun present o (plain_run a p s)) (codes "run") built_run
    (plain_run_apart program a p s) (archive_given a p s []) refl refl refl
    (run_opens a p s [] plain tt)
    (has_run present _ _ (record { archs_path = refl; packages_path = refl; sources_path = refl })
    refl refl refl refl refl refl)

abbrev whole_more : DeskValues → List Given
whole_more v =
    (codes "state", v.state) ∷ (codes "tracker", v.tracker) ∷ (codes "suite", v.suite)
    ∷ (codes "builders", v.builders) ∷ (codes "outcomes", v.outcomes)
    ∷ (codes "journal", v.journal) ∷ []

whole_opens : (a p s : List ℕ) (v : DeskValues) → AreDeskPlain v
    → Opens built_run (ended built_run (archive_given a p s [])) (whole_more v)
unfolding clap_on_literals
whole_opens a p s v k = (
  refl,
  refl,
  k.state_plain,
  (
    refl,
    refl,
    k.tracker_plain,
    (
      refl,
      refl,
      k.suite_plain,
      (
        refl,
        refl,
        k.builders_plain,
        (refl, refl, k.outcomes_plain, (refl, refl, k.journal_plain, tt)),
      ),
    ),
  ),
)

pub asks_for_whole_run_apart : SeparateWholeRunWordsAsk
unfolding clap_on_literals
asks_for_whole_run_apart present program a p s v count same plain desk_plain =
    asked_by (λ o. HasRun present o (whole_run a p s v count)) (codes "run") built_run
    (whole_run_apart program a p s v) (archive_given a p s (whole_more v)) refl refl refl
    (run_opens a p s (whole_more v) plain (whole_opens a p s v desk_plain))
    (has_run present _ _ (record { archs_path = refl; packages_path = refl; sources_path = refl })
    refl refl refl same refl refl)
