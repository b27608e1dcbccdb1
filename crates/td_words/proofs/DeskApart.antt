-- The words of a desk ask for it with their values as words of their own.
use Rattle.std.proofs.Common.{◌≡◌, ℕ, false, List, [], ◌∷◌, Option, Some, None, codes, refl, sym}
use Rattle.std.proofs.Common.{subst}
use Rattle.clap.specs.Walk.{finished, nothing_held, walk_from}
use Rattle.clap.specs.Simple.{Shape, subcommand_of}
use Rattle.clap.proofs.OnLiterals.{clap_on_literals}
use Rattle.td_words.specs.CommandLine.{IsPlainPath, desk, desk_shape, faults_of, suite_in}
use Rattle.td_words.specs.DeskWords.{AskForDesk, DeskWords, HasDesk, SeparateDeskWordsAsk}
use Rattle.td_words.specs.DeskWords.{desk_apart}
use Rattle.td_words.specs.WordsApart.{ArePlain, IsPlainIfGiven}
use Rattle.td_words.specs.declared.present.Present.{Present}
use Rattle.td_words.proofs.Apart.{Given, Opens, end_fault, ended}
use Rattle.td_words.proofs.Asking.{archived}
use Rattle.td_words.proofs.DeskAsking.{desk_as, has_desk}
use Rattle.td_words.proofs.WordsApart.{archive_given, asked_by, built_as, entered, faults_in}
use Rattle.td_words.proofs.WordsApart.{if_given}

abbrev built_desk : Shape
built_desk = built_as (codes "desk") (desk_shape false)

-- the desk's own file and the files of an archive, and what follows them
abbrev files_given : List ℕ → List ℕ → List ℕ → List ℕ → List Given → List Given
files_given a p s j more = (codes "journal", j) ∷ archive_given a p s more

abbrev desk_more : Option (List ℕ) → Option (List ℕ) → Option (List ℕ) → List Given
desk_more state tracker suite =
    if_given (codes "state") state
    (if_given (codes "tracker") tracker (if_given (codes "suite") suite []))

module _ (present : Present) (program a p s j name : List ℕ) (h : ArePlain a p s)
    (pj : IsPlainPath j) where
  abbrev desk_given : Option (List ℕ) → Option (List ℕ) → Option (List ℕ) → List Given
  desk_given state tracker suite = files_given a p s j (desk_more state tracker suite)

  abbrev desk_words : Option (List ℕ) → Option (List ℕ) → Option (List ℕ) → List (List ℕ)
  desk_words state tracker suite =
      desk_apart program (desk_as a p s j state tracker name false) suite

  -- the desk's own file and the files of an archive are no options, and what follows them decides
  desk_opens : (more : List Given)
      → Opens built_desk (ended built_desk (files_given a p s j [])) more
      → Opens built_desk (walk_from nothing_held) (files_given a p s j more)
  unfolding clap_on_literals
  desk_opens more opens = (
    refl,
    refl,
    pj,
    (
      refl,
      refl,
      h.archs_plain,
      (refl, refl, h.packages_plain, (refl, refl, h.sources_plain, opens)),
    ),
  )

  desk_by : (state tracker suite : Option (List ℕ))
      → subcommand_of desk (desk_words state tracker suite)
      ≡ entered (codes "desk") built_desk (desk_given state tracker suite)
      → faults_of (desk_words state tracker suite)
      ≡ faults_in built_desk (desk_given state tracker suite)
      → end_fault built_desk (desk_given state tracker suite) ≡ []
      → HasDesk present
      (finished built_desk.rules (ended built_desk (desk_given state tracker suite)).held)
      (desk_as a p s j state tracker name false)
      → Opens built_desk (ended built_desk (files_given a p s j [])) (desk_more state tracker suite)
      → AskForDesk present (desk_words state tracker suite)
      (desk_as a p s j state tracker name false)
  desk_by state tracker suite enters fails ends has opens =
      asked_by (λ o. HasDesk present o (desk_as a p s j state tracker name false)) (codes "desk")
      built_desk (desk_words state tracker suite) (desk_given state tracker suite) enters fails ends
      (desk_opens (desk_more state tracker suite) opens) has

  desk_asks : (state tracker suite : Option (List ℕ)) → suite_in suite ≡ name
      → IsPlainIfGiven state → IsPlainIfGiven tracker → IsPlainIfGiven suite
      → AskForDesk present (desk_words state tracker suite)
      (desk_as a p s j state tracker name false)
  unfolding clap_on_literals
  desk_asks None None None same pr pt pu =
      desk_by None None None refl refl refl
      (has_desk present _ _ (archived _ _ _ _ refl refl refl) refl refl refl same refl)
      tt
  desk_asks None None (Some u) same pr pt pu =
      desk_by None None (Some u) refl refl refl
      (has_desk present _ _ (archived _ _ _ _ refl refl refl) refl refl refl same refl)
      (refl, refl, pu, tt)
  desk_asks None (Some t) None same pr pt pu =
      desk_by None (Some t) None refl refl refl
      (has_desk present _ _ (archived _ _ _ _ refl refl refl) refl refl refl same refl)
      (refl, refl, pt, tt)
  desk_asks None (Some t) (Some u) same pr pt pu =
      desk_by None (Some t) (Some u) refl refl refl
      (has_desk present _ _ (archived _ _ _ _ refl refl refl) refl refl refl same refl)
      (refl, refl, pt, (refl, refl, pu, tt))
  desk_asks (Some r) None None same pr pt pu =
      desk_by (Some r) None None refl refl refl
      (has_desk present _ _ (archived _ _ _ _ refl refl refl) refl refl refl same refl)
      (refl, refl, pr, tt)
  desk_asks (Some r) None (Some u) same pr pt pu =
      desk_by (Some r) None (Some u) refl refl refl
      (has_desk present _ _ (archived _ _ _ _ refl refl refl) refl refl refl same refl)
      (refl, refl, pr, (refl, refl, pu, tt))
  desk_asks (Some r) (Some t) None same pr pt pu =
      desk_by (Some r) (Some t) None refl refl refl
      (has_desk present _ _ (archived _ _ _ _ refl refl refl) refl refl refl same refl)
      (refl, refl, pr, (refl, refl, pt, tt))
  desk_asks (Some r) (Some t) (Some u) same pr pt pu =
      desk_by (Some r) (Some t) (Some u) refl refl refl
      (has_desk present _ _ (archived _ _ _ _ refl refl refl) refl refl refl same refl)
      (refl, refl, pr, (refl, refl, pt, (refl, refl, pu, tt)))

-- a desk that doesn't wait is such a one
never_waits : (w : DeskWords) → w.waits ≡ false
    → desk_as w.archs w.packages w.sources w.journal w.state w.tracker w.suite false ≡ w
never_waits w now = λ i. record {
  archs = w.archs;
  packages = w.packages;
  sources = w.sources;
  journal = w.journal;
  state = w.state;
  tracker = w.tracker;
  suite = w.suite;
  waits = sym now i;
}

pub asks_for_desk_apart : SeparateDeskWordsAsk
asks_for_desk_apart present program w suite same now plain pj pr pt pu =
    subst (AskForDesk present (desk_apart program w suite)) (never_waits w now)
    (desk_asks present program w.archs w.packages w.sources w.journal w.suite plain pj w.state
    w.tracker suite same pr pt pu)
