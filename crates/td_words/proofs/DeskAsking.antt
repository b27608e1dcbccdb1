-- What `clap` reads in the words that ask for a desk.
use Rattle.std.proofs.Common.{◌≡◌, ℕ, Bool, true, false, List, ◌++◌, Option, Some, None, codes}
use Rattle.std.proofs.Common.{refl, subst, append-nil}
use Rattle.clap.specs.Walk.{Row, first_of}
use Rattle.clap.proofs.OnLiterals.{clap_on_literals}
use Rattle.td_words.specs.CommandLine.{HasFiles, explaining, is_explained, options_of, suite_in}
use Rattle.td_words.specs.DeskWords.{AskForDesk, DeskWords, DeskWordsAsk, DeskWordsExplain}
use Rattle.td_words.specs.DeskWords.{HasDesk, asking_for_desk}
use Rattle.td_words.specs.Folder.{path_if, path_in}
use Rattle.td_words.specs.ShownWords.{is_set}
use Rattle.td_words.specs.declared.present.Present.{Present}
use Rattle.td_words.proofs.Asking.{archived}

-- a desk with these values
abbrev pub desk_as : List ℕ → List ℕ → List ℕ → List ℕ → Option (List ℕ) → Option (List ℕ) → List ℕ
    → Bool → DeskWords
desk_as a p s j state tracker name waits = record {
  archs = a;
  packages = p;
  sources = s;
  journal = j;
  state = state;
  tracker = tracker;
  suite = name;
  waits = waits;
}

pub has_desk : (present : Present) (options : List Row) (w : DeskWords)
    → HasFiles options w.archs w.packages w.sources
    → path_in (codes "journal") options ≡ Some w.journal
    → path_if present.state (codes "state") options ≡ w.state
    → path_if present.tracker (codes "tracker") options ≡ w.tracker
    → suite_in (first_of (codes "suite") options) ≡ w.suite
    → is_set (codes "wait") options ≡ w.waits → HasDesk present options w
has_desk present options w files journal state tracker suite waiting =
    record {
      files = files;
      journal_path = journal;
      state_path = state;
      tracker_path = tracker;
      suite_name = suite;
      waiting = waiting;
    }

-- the words that ask for a desk, with each value and each flag or without
desk_asked : (present : Present) (program a p s j : List ℕ) (state tracker suite : Option (List ℕ))
    (name : List ℕ) (waits explained : Bool) → suite_in suite ≡ name
    → AskForDesk present
    (asking_for_desk program (desk_as a p s j state tracker name waits) suite
    ++ explaining explained) (desk_as a p s j state tracker name waits)
unfolding clap_on_literals
desk_asked present program a p s j None None None name false false same = (
  (refl, refl),
  has_desk _ _ _ (archived _ _ _ _ refl refl refl) refl refl refl same refl,
)
desk_asked present program a p s j None None (Some u) name false false same = (
  (refl, refl),
  has_desk _ _ _ (archived _ _ _ _ refl refl refl) refl refl refl same refl,
)
desk_asked present program a p s j None (Some t) None name false false same = (
  (refl, refl),
  has_desk _ _ _ (archived _ _ _ _ refl refl refl) refl refl refl same refl,
)
desk_asked present program a p s j None (Some t) (Some u) name false false same = (
  (refl, refl),
  has_desk _ _ _ (archived _ _ _ _ refl refl refl) refl refl refl same refl,
)
desk_asked present program a p s j (Some r) None None name false false same = (
  (refl, refl),
  has_desk _ _ _ (archived _ _ _ _ refl refl refl) refl refl refl same refl,
)
desk_asked present program a p s j (Some r) None (Some u) name false false same = (
  (refl, refl),
  has_desk _ _ _ (archived _ _ _ _ refl refl refl) refl refl refl same refl,
)
desk_asked present program a p s j (Some r) (Some t) None name false false same = (
  (refl, refl),
  has_desk _ _ _ (archived _ _ _ _ refl refl refl) refl refl refl same refl,
)
desk_asked present program a p s j (Some r) (Some t) (Some u) name false false same = (
  (refl, refl),
  has_desk _ _ _ (archived _ _ _ _ refl refl refl) refl refl refl same refl,
)
desk_asked present program a p s j None None None name true false same = (
  (refl, refl),
  has_desk _ _ _ (archived _ _ _ _ refl refl refl) refl refl refl same refl,
)
desk_asked present program a p s j None None (Some u) name true false same = (
  (refl, refl),
  has_desk _ _ _ (archived _ _ _ _ refl refl refl) refl refl refl same refl,
)
desk_asked present program a p s j None (Some t) None name true false same = (
  (refl, refl),
  has_desk _ _ _ (archived _ _ _ _ refl refl refl) refl refl refl same refl,
)
desk_asked present program a p s j None (Some t) (Some u) name true false same = (
  (refl, refl),
  has_desk _ _ _ (archived _ _ _ _ refl refl refl) refl refl refl same refl,
)
desk_asked present program a p s j (Some r) None None name true false same = (
  (refl, refl),
  has_desk _ _ _ (archived _ _ _ _ refl refl refl) refl refl refl same refl,
)
desk_asked present program a p s j (Some r) None (Some u) name true false same = (
  (refl, refl),
  has_desk _ _ _ (archived _ _ _ _ refl refl refl) refl refl refl same refl,
)
desk_asked present program a p s j (Some r) (Some t) None name true false same = (
  (refl, refl),
  has_desk _ _ _ (archived _ _ _ _ refl refl refl) refl refl refl same refl,
)
desk_asked present program a p s j (Some r) (Some t) (Some u) name true false same = (
  (refl, refl),
  has_desk _ _ _ (archived _ _ _ _ refl refl refl) refl refl refl same refl,
)
desk_asked present program a p s j None None None name false true same = (
  (refl, refl),
  has_desk _ _ _ (archived _ _ _ _ refl refl refl) refl refl refl same refl,
)
desk_asked present program a p s j None None (Some u) name false true same = (
  (refl, refl),
  has_desk _ _ _ (archived _ _ _ _ refl refl refl) refl refl refl same refl,
)
desk_asked present program a p s j None (Some t) None name false true same = (
  (refl, refl),
  has_desk _ _ _ (archived _ _ _ _ refl refl refl) refl refl refl same refl,
)
desk_asked present program a p s j None (Some t) (Some u) name false true same = (
  (refl, refl),
  has_desk _ _ _ (archived _ _ _ _ refl refl refl) refl refl refl same refl,
)
desk_asked present program a p s j (Some r) None None name false true same = (
  (refl, refl),
  has_desk _ _ _ (archived _ _ _ _ refl refl refl) refl refl refl same refl,
)
desk_asked present program a p s j (Some r) None (Some u) name false true same = (
  (refl, refl),
  has_desk _ _ _ (archived _ _ _ _ refl refl refl) refl refl refl same refl,
)
desk_asked present program a p s j (Some r) (Some t) None name false true same = (
  (refl, refl),
  has_desk _ _ _ (archived _ _ _ _ refl refl refl) refl refl refl same refl,
)
desk_asked present program a p s j (Some r) (Some t) (Some u) name false true same = (
  (refl, refl),
  has_desk _ _ _ (archived _ _ _ _ refl refl refl) refl refl refl same refl,
)
desk_asked present program a p s j None None None name true true same = (
  (refl, refl),
  has_desk _ _ _ (archived _ _ _ _ refl refl refl) refl refl refl same refl,
)
desk_asked present program a p s j None None (Some u) name true true same = (
  (refl, refl),
  has_desk _ _ _ (archived _ _ _ _ refl refl refl) refl refl refl same refl,
)
desk_asked present program a p s j None (Some t) None name true true same = (
  (refl, refl),
  has_desk _ _ _ (archived _ _ _ _ refl refl refl) refl refl refl same refl,
)
desk_asked present program a p s j None (Some t) (Some u) name true true same = (
  (refl, refl),
  has_desk _ _ _ (archived _ _ _ _ refl refl refl) refl refl refl same refl,
)
desk_asked present program a p s j (Some r) None None name true true same = (
  (refl, refl),
  has_desk _ _ _ (archived _ _ _ _ refl refl refl) refl refl refl same refl,
)
desk_asked present program a p s j (Some r) None (Some u) name true true same = (
  (refl, refl),
  has_desk _ _ _ (archived _ _ _ _ refl refl refl) refl refl refl same refl,
)
desk_asked present program a p s j (Some r) (Some t) None name true true same = (
  (refl, refl),
  has_desk _ _ _ (archived _ _ _ _ refl refl refl) refl refl refl same refl,
)
desk_asked present program a p s j (Some r) (Some t) (Some u) name true true same = (
  (refl, refl),
  has_desk _ _ _ (archived _ _ _ _ refl refl refl) refl refl refl same refl,
)

desk_flag : (program a p s j : List ℕ) (state tracker suite : Option (List ℕ)) (name : List ℕ)
    (waits explained : Bool)
    → is_explained (options_of
    (asking_for_desk program (desk_as a p s j state tracker name waits) suite
    ++ explaining explained)) ≡ explained
unfolding clap_on_literals
desk_flag program a p s j None None None name false false = refl
desk_flag program a p s j None None (Some u) name false false = refl
desk_flag program a p s j None (Some t) None name false false = refl
desk_flag program a p s j None (Some t) (Some u) name false false = refl
desk_flag program a p s j (Some r) None None name false false = refl
desk_flag program a p s j (Some r) None (Some u) name false false = refl
desk_flag program a p s j (Some r) (Some t) None name false false = refl
desk_flag program a p s j (Some r) (Some t) (Some u) name false false = refl
desk_flag program a p s j None None None name true false = refl
desk_flag program a p s j None None (Some u) name true false = refl
desk_flag program a p s j None (Some t) None name true false = refl
desk_flag program a p s j None (Some t) (Some u) name true false = refl
desk_flag program a p s j (Some r) None None name true false = refl
desk_flag program a p s j (Some r) None (Some u) name true false = refl
desk_flag program a p s j (Some r) (Some t) None name true false = refl
desk_flag program a p s j (Some r) (Some t) (Some u) name true false = refl
desk_flag program a p s j None None None name false true = refl
desk_flag program a p s j None None (Some u) name false true = refl
desk_flag program a p s j None (Some t) None name false true = refl
desk_flag program a p s j None (Some t) (Some u) name false true = refl
desk_flag program a p s j (Some r) None None name false true = refl
desk_flag program a p s j (Some r) None (Some u) name false true = refl
desk_flag program a p s j (Some r) (Some t) None name false true = refl
desk_flag program a p s j (Some r) (Some t) (Some u) name false true = refl
desk_flag program a p s j None None None name true true = refl
desk_flag program a p s j None None (Some u) name true true = refl
desk_flag program a p s j None (Some t) None name true true = refl
desk_flag program a p s j None (Some t) (Some u) name true true = refl
desk_flag program a p s j (Some r) None None name true true = refl
desk_flag program a p s j (Some r) None (Some u) name true true = refl
desk_flag program a p s j (Some r) (Some t) None name true true = refl
desk_flag program a p s j (Some r) (Some t) (Some u) name true true = refl

pub desk_explains : DeskWordsExplain
desk_explains = record {
  same = λ present program w suite explained same.
      desk_asked present program w.archs w.packages w.sources w.journal w.state w.tracker suite
      w.suite w.waits explained same;
  flag = λ program w suite explained.
      desk_flag program w.archs w.packages w.sources w.journal w.state w.tracker suite w.suite
      w.waits explained;
}

pub asks_for_desk : DeskWordsAsk
asks_for_desk present program w suite same =
    subst (λ words. AskForDesk present words w) (append-nil (asking_for_desk program w suite))
    (desk_explains.same present program w suite false same)
