-- What `clap` reads in the words that ask for a plan, and what is said of those that no line can
-- have.
use Rattle.std.proofs.Common.{◌≡◌, ℕ, Bool, true, false, List, [], ◌∷◌, ◌++◌, Option, Some, None}
use Rattle.std.proofs.Common.{Result, Err, codes, refl, sym, ap, subst, ◌∙◌}
use Rattle.std.specs.Prelude.{◌↔◌, IsErrOf, if◌then◌else◌}
use Rattle.clap.specs.Walk.{Row, first_of}
use Rattle.clap.proofs.OnLiterals.{clap_on_literals}
use Rattle.td_plan.specs.Message.{can_be_quoted, is_suite}
use Rattle.td_plan.specs.declared.words.WordFault.{WordFault}
use Rattle.td_plan.specs.declared.words.WordFault.TheVariants.{BadMessage, BadSuite}
use Rattle.td_plan.specs.declared.words.Words.{Words}
use Rattle.td_words.specs.CommandLine.{AskFor, explaining, is_explained, options_of, suite_in}
use Rattle.td_words.specs.PlanWords.{AreLineWords, AskForPlan, HasPlan, PlanWords, PlanWordsAsk}
use Rattle.td_words.specs.PlanWords.{PlanWordsExplain, asking_for_plan, line_words_said}
use Rattle.td_words.specs.PlanWords.{message_said, suite_said}
use Rattle.td_words.specs.declared.present.Present.{Present}
use Rattle.td_words.specs.Folder.{path_if, path_in}
use Rattle.td_words.specs.inner.Judged.{said_of}
use Rattle.td_words.proofs.Asking.{has_tracker}

-- ---- 1. what the options of a plan are

-- what is found of each option of a plan
abbrev pub ArePlanOptions : Present → List Row → List ℕ → List ℕ → List ℕ → List ℕ → List ℕ
    → Option (List ℕ) → Option (List ℕ) → Type 0
ArePlanOptions present options a p s t message state suite =
    (path_in (codes "archs") options ≡ Some a)
    × (path_in (codes "packages") options ≡ Some p)
    × (path_in (codes "sources") options ≡ Some s)
    × (path_if present.tracker (codes "tracker") options ≡ Some t)
    × (first_of (codes "message") options ≡ Some message)
    × (path_if present.state (codes "state") options ≡ state)
    × (first_of (codes "suite") options ≡ suite)

pub has_plan : (present : Present) (options : List Row) (w : PlanWords)
    (suite : Option (List ℕ))
    → ArePlanOptions present options w.archs w.packages w.sources w.tracker w.message w.state suite
    → suite_in suite ≡ w.suite → AreLineWords w.message w.suite
    → HasPlan present options w
has_plan present options w suite are same line_words =
    record {
      files = has_tracker present options w.archs w.packages w.sources w.tracker
          (record { archs_path = are.0; packages_path = are.1; sources_path = are.2 }) are.3;
      state_path = are.5;
      message_text = are.4;
      suite_name = ap suite_in are.6 ∙ same;
      line_words = line_words;
    }

-- ---- 2. joined words

plan_asked : (present : Present) (program a p s t message : List ℕ)
    (state suite : Option (List ℕ)) (explained : Bool)
    → (let w : PlanWords = record {
      archs = a;
      packages = p;
      sources = s;
      tracker = t;
      state = state;
      message = message;
      suite = [];
    } in
    let words = asking_for_plan program w suite ++ explaining explained in
    AskFor (codes "plan") words × ArePlanOptions present (options_of words) a p s t message state
    suite)
unfolding clap_on_literals
plan_asked present program a p s t m None None false =
    ((refl, refl), (refl, refl, refl, refl, refl, refl, refl))
plan_asked present program a p s t m None (Some suite) false =
    ((refl, refl), (refl, refl, refl, refl, refl, refl, refl))
plan_asked present program a p s t m (Some state) None false =
    ((refl, refl), (refl, refl, refl, refl, refl, refl, refl))
plan_asked present program a p s t m (Some state) (Some suite) false =
    ((refl, refl), (refl, refl, refl, refl, refl, refl, refl))
plan_asked present program a p s t m None None true =
    ((refl, refl), (refl, refl, refl, refl, refl, refl, refl))
plan_asked present program a p s t m None (Some suite) true =
    ((refl, refl), (refl, refl, refl, refl, refl, refl, refl))
plan_asked present program a p s t m (Some state) None true =
    ((refl, refl), (refl, refl, refl, refl, refl, refl, refl))
plan_asked present program a p s t m (Some state) (Some suite) true =
    ((refl, refl), (refl, refl, refl, refl, refl, refl, refl))

plan_same : (present : Present) (program : List ℕ) (w : PlanWords) (suite : Option (List ℕ))
    (explained : Bool) → suite_in suite ≡ w.suite → AreLineWords w.message w.suite
    → AskForPlan present (asking_for_plan program w suite ++ explaining explained) w
plan_same present program w suite explained same line_words =
    let words = asking_for_plan program w suite ++ explaining explained in
    let asked = plan_asked present program w.archs w.packages w.sources w.tracker w.message w.state
    suite explained in
    (asked.0, has_plan present (options_of words) w suite asked.1 same line_words)

plan_flag : (program a p s t message : List ℕ) (state suite : Option (List ℕ)) (name : List ℕ)
    (explained : Bool)
    → (let w : PlanWords = record {
      archs = a;
      packages = p;
      sources = s;
      tracker = t;
      state = state;
      message = message;
      suite = name;
    } in
    is_explained (options_of (asking_for_plan program w suite ++ explaining explained))
    ≡ explained)
unfolding clap_on_literals
plan_flag program a p s t m None None name false = refl
plan_flag program a p s t m None (Some suite) name false = refl
plan_flag program a p s t m (Some state) None name false = refl
plan_flag program a p s t m (Some state) (Some suite) name false = refl
plan_flag program a p s t m None None name true = refl
plan_flag program a p s t m None (Some suite) name true = refl
plan_flag program a p s t m (Some state) None name true = refl
plan_flag program a p s t m (Some state) (Some suite) name true = refl

pub plan_explains : PlanWordsExplain
plan_explains = record {
  same = plan_same;
  flag = λ program w suite explained.
      plan_flag program w.archs w.packages w.sources w.tracker w.message w.state suite w.suite
      explained;
}

pub asks_for_plan : PlanWordsAsk
asks_for_plan present program w suite same line_words =
    subst (λ words. AskForPlan present words w) (append_nothing (asking_for_plan program w suite))
    (plan_same present program w suite false same line_words)
  where
    append_nothing : (words : List (List ℕ)) → words ++ [] ≡ words
    append_nothing [] = refl
    append_nothing (word ∷ more) = ap (λ rest. word ∷ rest) (append_nothing more)

-- ---- 3. a message or a suite that no line can have

said_so : (message suite : List ℕ) (fault : WordFault) → (r : Result Words WordFault)
    → r ≡ Err fault → (IsErrOf r BadMessage → can_be_quoted message ≡ false)
    → (IsErrOf r BadSuite → (can_be_quoted message ≡ true) × (is_suite suite ≡ false))
    → (said_of fault ≡ line_words_said message) × (AreLineWords message suite → ⊥)
said_so message suite BadMessage r is bad other =
    let unquoted = bad is in (
      sym (ap (λ (b : Bool). if b then suite_said else message_said) unquoted),
      λ fine. (let both : true ≡ false = sym fine.quotable ∙ unquoted in cc),
    )
said_so message suite BadSuite r is other bad =
    let found = bad is in (
      sym (ap (λ (b : Bool). if b then suite_said else message_said) found.0),
      λ fine. (let both : true ≡ false = sym fine.named ∙ found.1 in cc),
    )

pub fault_said : (message suite : List ℕ) (fault : WordFault) (r : Result Words WordFault)
    → r ≡ Err fault → (IsErrOf r BadMessage ↔ (can_be_quoted message ≡ false))
    → (IsErrOf r BadSuite ↔ ((can_be_quoted message ≡ true) × (is_suite suite ≡ false)))
    → said_of fault ≡ line_words_said message
fault_said message suite fault r is bad_message bad_suite =
    (said_so message suite fault r is bad_message.0 bad_suite.0).0

pub fault_refuses : (message suite : List ℕ) (fault : WordFault) (r : Result Words WordFault)
    → r ≡ Err fault → (IsErrOf r BadMessage ↔ (can_be_quoted message ≡ false))
    → (IsErrOf r BadSuite ↔ ((can_be_quoted message ≡ true) × (is_suite suite ≡ false)))
    → AreLineWords message suite → ⊥
fault_refuses message suite fault r is bad_message bad_suite =
    (said_so message suite fault r is bad_message.0 bad_suite.0).1
