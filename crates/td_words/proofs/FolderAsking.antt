-- What `clap` reads in the words that give a folder.
use Rattle.std.proofs.Common.{ℕ, Bool, true, false, List, ◌∷◌, codes, refl}
use Rattle.clap.proofs.OnLiterals.{clap_on_literals}
use Rattle.td_words.specs.CheckWords.{AskForCheck, detail_words}
use Rattle.td_words.specs.CommandLine.{given}
use Rattle.td_words.specs.Folder.{in_folder}
use Rattle.td_words.specs.FolderWords.{FolderWordsAsk, folder_check, folder_words}
use Rattle.td_words.proofs.Asking.{archived, has_run, has_tracker, has_waves}
use Rattle.td_words.proofs.CheckAsking.{has_check}
use Rattle.td_words.proofs.DeskAsking.{has_desk}

pub folder_words_ask : FolderWordsAsk
unfolding clap_on_literals
folder_words_ask = record {
  check = check;
  own = own;
  track = λ program folder state journal. (
    (refl, refl),
    record {
      files = has_tracker _ _ _ _ _ _
          (record { archs_path = refl; packages_path = refl; sources_path = refl }) refl;
      state_path = refl;
      statuses = refl;
      rows = refl;
    },
  );
  waves = λ program folder state journal. (
    (refl, refl),
    has_waves _ _ _
        (has_tracker _ _ _ _ _ _
        (record { archs_path = refl; packages_path = refl; sources_path = refl }) refl) refl,
  );
  plan = λ program folder message state journal line_words. (
    (refl, refl),
    record {
      files = has_tracker _ _ _ _ _ _
          (record { archs_path = refl; packages_path = refl; sources_path = refl }) refl;
      state_path = refl;
      message_text = refl;
      suite_name = refl;
      line_words = line_words;
    },
  );
  run = λ present program folder. (
    (refl, refl),
    has_run _ _ _ (record { archs_path = refl; packages_path = refl; sources_path = refl })
        refl refl refl refl refl refl,
  );
  desk = λ present program folder. (
    (refl, refl),
    has_desk _ _ _ (archived _ _ _ _ refl refl refl) refl refl refl refl refl,
  );
  own_journal = λ present program folder journal. (
    (refl, refl),
    has_desk _ _ _ (archived _ _ _ _ refl refl refl) refl refl refl refl refl,
  );
}
  where
    check : (program folder : List ℕ) (details : Bool)
        → AskForCheck (folder_words program (codes "check") folder (detail_words details))
        (folder_check folder (in_folder (codes "packages") folder) details)
    check program folder false =
        ((refl, refl), has_check _ _ (archived _ _ _ _ refl refl refl) refl refl refl)
    check program folder true =
        ((refl, refl), has_check _ _ (archived _ _ _ _ refl refl refl) refl refl refl)

    own : (program folder packages : List ℕ) (details : Bool)
        → AskForCheck
        (folder_words program (codes "check") folder
        (given (codes "packages") packages ∷ detail_words details))
        (folder_check folder packages details)
    own program folder packages false =
        ((refl, refl), has_check _ _ (archived _ _ _ _ refl refl refl) refl refl refl)
    own program folder packages true =
        ((refl, refl), has_check _ _ (archived _ _ _ _ refl refl refl) refl refl refl)
