-- What `clap` reads in the words that ask for a check.
use Rattle.std.proofs.Common.{◌≡◌, ℕ, Bool, true, false, List, ◌++◌, Option, Some, None, codes}
use Rattle.std.proofs.Common.{refl, subst, append-nil}
use Rattle.clap.specs.Walk.{Row, first_of}
use Rattle.clap.proofs.OnLiterals.{clap_on_literals}
use Rattle.td_words.specs.CheckWords.{AskForCheck, CheckWords, CheckWordsExplain, HasCheck}
use Rattle.td_words.specs.CheckWords.{JoinedWordsAsk, asking_for_check, details_fit, tracker_fits}
use Rattle.td_words.specs.CommandLine.{HasFiles, explaining, is_explained, options_of}
use Rattle.td_words.specs.ShownWords.{is_set}
use Rattle.td_words.proofs.Asking.{archived}

-- a check with these values
abbrev check_as : List ℕ → List ℕ → List ℕ → Bool → Option (List ℕ) → CheckWords
check_as a p s details tracker = record {
  archs = a;
  packages = p;
  sources = s;
  details = details;
  tracker = tracker;
}

pub has_check : (options : List Row) (w : CheckWords)
    → HasFiles options w.archs w.packages w.sources → is_set (codes "details") options ≡ w.details
    → first_of (codes "tracker") options ≡ w.tracker → details_fit options ≡ true
    → HasCheck options w
has_check options w files detailed tracker fits =
    record { files = files; detailed = detailed; tracker_path = tracker; fits = fits }

pub check_explains : CheckWordsExplain
unfolding clap_on_literals
check_explains = record { same = same; flag = flag }
  where
    -- the words that ask for a check, with details and without, and with a tracker and without
    of_details : (program a p s : List ℕ) (details : Bool) (tracker : Option (List ℕ))
        (explained : Bool) → tracker_fits tracker details ≡ true
        → AskForCheck
        (asking_for_check program (check_as a p s details tracker) ++ explaining explained)
        (check_as a p s details tracker)
    of_details program a p s false None false fits =
        ((refl, refl), has_check _ _ (archived _ _ _ _ refl refl refl) refl refl fits)
    of_details program a p s false None true fits =
        ((refl, refl), has_check _ _ (archived _ _ _ _ refl refl refl) refl refl fits)
    of_details program a p s false (Some t) false fits =
        ((refl, refl), has_check _ _ (archived _ _ _ _ refl refl refl) refl refl fits)
    of_details program a p s false (Some t) true fits =
        ((refl, refl), has_check _ _ (archived _ _ _ _ refl refl refl) refl refl fits)
    of_details program a p s true None false fits =
        ((refl, refl), has_check _ _ (archived _ _ _ _ refl refl refl) refl refl fits)
    of_details program a p s true None true fits =
        ((refl, refl), has_check _ _ (archived _ _ _ _ refl refl refl) refl refl fits)
    of_details program a p s true (Some t) false fits =
        ((refl, refl), has_check _ _ (archived _ _ _ _ refl refl refl) refl refl fits)
    of_details program a p s true (Some t) true fits =
        ((refl, refl), has_check _ _ (archived _ _ _ _ refl refl refl) refl refl fits)

    same : (program : List ℕ) (w : CheckWords) (explained : Bool)
        → tracker_fits w.tracker w.details ≡ true
        → AskForCheck (asking_for_check program w ++ explaining explained) w
    same program w explained fits =
        of_details program w.archs w.packages w.sources w.details w.tracker explained fits

    is_flag : (program a p s : List ℕ) (details : Bool) (tracker : Option (List ℕ))
        (explained : Bool)
        → is_explained (options_of
        (asking_for_check program (check_as a p s details tracker) ++ explaining explained))
        ≡ explained
    is_flag program a p s false None false = refl
    is_flag program a p s false None true = refl
    is_flag program a p s false (Some t) false = refl
    is_flag program a p s false (Some t) true = refl
    is_flag program a p s true None false = refl
    is_flag program a p s true None true = refl
    is_flag program a p s true (Some t) false = refl
    is_flag program a p s true (Some t) true = refl

    flag : (program : List ℕ) (w : CheckWords) (explained : Bool)
        → is_explained (options_of (asking_for_check program w ++ explaining explained))
        ≡ explained
    flag program w explained =
        is_flag program w.archs w.packages w.sources w.details w.tracker explained

pub asks_for_check : JoinedWordsAsk
asks_for_check program w fits =
    subst (λ words. AskForCheck words w) (append-nil (asking_for_check program w))
    (check_explains.same program w false fits)
