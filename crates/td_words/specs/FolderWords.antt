-- The words that give a folder ask for the files in it. This project's own.
use Rattle.std.specs.Prelude.{ℕ, List, [], ◌∷◌, Bool, true, false, Option, Some, None, codes}
use Rattle.td_report.specs.Report.{all_shown}
use Rattle.td_words.specs.declared.present.Present.{Present}
use Rattle.td_words.specs.CheckWords.{AskForCheck, CheckWords, detail_words}
use Rattle.td_words.specs.CommandLine.{AskForRun, AskForTrack, AskForWaves, RunWords, TrackWords}
use Rattle.td_words.specs.CommandLine.{WavesWords, given, usual_suite}
use Rattle.td_words.specs.DeskWords.{AskForDesk, DeskWords}
use Rattle.td_words.specs.PlanWords.{AreLineWords, AskForPlan, PlanWords}
use Rattle.td_words.specs.ShownWords.{by_levels}
use Rattle.td_words.specs.Folder.{if_there, in_folder}

-- the words that give a folder to a subcommand, and more words
abbrev pub folder_words : List ℕ → List ℕ → List ℕ → List (List ℕ) → List (List ℕ)
folder_words program name folder more = program ∷ name ∷ given (codes "folder") folder ∷ more

-- the path of a file that counts if it is there
abbrev pub there : Bool → List ℕ → List ℕ → Option (List ℕ)
there is_there name folder = if_there is_there (Some (in_folder name folder))

-- the check over a folder, with the index of packages at this path
abbrev pub folder_check : List ℕ → List ℕ → Bool → CheckWords
folder_check folder packages details = record {
  archs = in_folder (codes "archs") folder;
  packages = packages;
  sources = in_folder (codes "sources") folder;
  details = details;
  tracker = None;
}

-- the report over a folder with a tracker
abbrev pub folder_report : Bool → List ℕ → TrackWords
folder_report state folder = record {
  archs = in_folder (codes "archs") folder;
  packages = in_folder (codes "packages") folder;
  sources = in_folder (codes "sources") folder;
  tracker = in_folder (codes "tracker") folder;
  state = there state (codes "state") folder;
  shown = all_shown;
  chunk = None;
}

-- the waves over a folder with a tracker
abbrev pub folder_waves : List ℕ → WavesWords
folder_waves folder = record {
  archs = in_folder (codes "archs") folder;
  packages = in_folder (codes "packages") folder;
  sources = in_folder (codes "sources") folder;
  tracker = in_folder (codes "tracker") folder;
  form = by_levels;
}

-- the plan over a folder with a tracker
abbrev pub folder_plan : Bool → List ℕ → List ℕ → PlanWords
folder_plan state folder message = record {
  archs = in_folder (codes "archs") folder;
  packages = in_folder (codes "packages") folder;
  sources = in_folder (codes "sources") folder;
  tracker = in_folder (codes "tracker") folder;
  state = there state (codes "state") folder;
  message = message;
  suite = usual_suite;
}

-- the run over a folder
abbrev pub folder_run : Present → List ℕ → RunWords
folder_run present folder = record {
  archs = in_folder (codes "archs") folder;
  packages = in_folder (codes "packages") folder;
  sources = in_folder (codes "sources") folder;
  state = there present.state (codes "state") folder;
  tracker = there present.tracker (codes "tracker") folder;
  suite = usual_suite;
  builders = 0;
  outcomes = None;
  journal = there present.journal (codes "journal") folder;
}

-- the desk over a folder, with its own file at this path
abbrev pub folder_desk : Present → List ℕ → List ℕ → DeskWords
folder_desk present folder journal = record {
  archs = in_folder (codes "archs") folder;
  packages = in_folder (codes "packages") folder;
  sources = in_folder (codes "sources") folder;
  journal = journal;
  state = there present.state (codes "state") folder;
  tracker = there present.tracker (codes "tracker") folder;
  suite = usual_suite;
  waits = false;
}

-- what a folder has if it has a tracker
abbrev pub with_tracker : Bool → Bool → Present
with_tracker state journal = record { state = state; tracker = true; journal = journal }

-- words that give only a folder ask for its files, and those that give a file too for that one
pub record FolderWordsAsk : Type 0 where
  pub check : (program folder : List ℕ) (details : Bool)
      → AskForCheck (folder_words program (codes "check") folder (detail_words details))
      (folder_check folder (in_folder (codes "packages") folder) details)
  pub own : (program folder packages : List ℕ) (details : Bool)
      → AskForCheck
      (folder_words program (codes "check") folder
      (given (codes "packages") packages ∷ detail_words details))
      (folder_check folder packages details)
  pub track : (program folder : List ℕ) (state journal : Bool)
      → AskForTrack (with_tracker state journal) (folder_words program (codes "track") folder [])
      (folder_report state folder)
  pub waves : (program folder : List ℕ) (state journal : Bool)
      → AskForWaves (with_tracker state journal) (folder_words program (codes "waves") folder [])
      (folder_waves folder)
  pub plan : (program folder message : List ℕ) (state journal : Bool)
      → AreLineWords message usual_suite
      → AskForPlan (with_tracker state journal)
      (folder_words program (codes "plan") folder (given (codes "message") message ∷ []))
      (folder_plan state folder message)
  pub run : (present : Present) (program folder : List ℕ)
      → AskForRun present (folder_words program (codes "run") folder []) (folder_run present folder)
  pub desk : (present : Present) (program folder : List ℕ)
      → AskForDesk present (folder_words program (codes "desk") folder [])
      (folder_desk present folder (in_folder (codes "journal") folder))
  pub own_journal : (present : Present) (program folder journal : List ℕ)
      → AskForDesk present
      (folder_words program (codes "desk") folder (given (codes "journal") journal ∷ []))
      (folder_desk present folder journal)
