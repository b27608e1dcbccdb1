-- Which words may follow the architectures, said of the whole list, and what they mean.
-- This project's own, in the style of wanna-build.
use Rattle.std.specs.Prelude.{◌≡◌, ◌↔◌, ◌⊎◌, ℕ, true, false, is_some, List, [], ◌∷◌, Option, Some}
use Rattle.std.specs.Prelude.{None, Ok}
use Rattle.td_wbread.specs.declared.command.Verb.{Verb}
use Rattle.td_wbread.specs.declared.word.Word.{Word}
use Rattle.td_wbread.specs.declared.word.End.{End}
use Rattle.td_wbread.specs.declared.word.End.TheVariants.{Closed, Open}
use Rattle.td_wbread.specs.Faults.{is_dot}
use Rattle.td_wbread.specs.Tail.{Values, is_extra, is_message, is_option, is_relation, is_suite}
use Rattle.td_wbread.specs.Tail.{needs_relation, tail_at, takes_extra, takes_message}

-- ---- 1. options

-- `-m` and its text, of a verb that takes it: a relation, where the verb waits for one
pub record IsMessage (verb : Verb) (flag value : Word) : Type 0 where
  pub sign : is_message flag ≡ true
  pub taken : takes_message verb ≡ true
  pub relation : needs_relation verb ≡ true → is_relation value.text ≡ true

-- `--extra-depends` and a relation, of the verb that takes it
pub record IsExtra (verb : Verb) (flag value : Word) : Type 0 where
  pub sign : is_extra flag ≡ true
  pub taken : takes_extra verb ≡ true
  pub relation : is_relation value.text ≡ true

-- these are the values
abbrev pub AreValues : Option Word → Option Word → Values → Type 0
AreValues message extra values = values ≡ record { message = message; extra = extra }

-- a pair of words is one of the options
abbrev pub IsOneOption : Verb → Word → Word → Values → Type 0
IsOneOption verb flag value values =
    (IsMessage verb flag value × AreValues (Some value) None values)
    ⊎ (IsExtra verb flag value × AreValues None (Some value) values)

-- two pairs of words are both options, in either order
abbrev pub AreBothOptions : Verb → Word → Word → Word → Word → Values → Type 0
AreBothOptions verb flag value other second values =
    (IsMessage verb flag value × IsExtra verb other second
    × AreValues (Some value) (Some second) values)
    ⊎ (IsExtra verb flag value × IsMessage verb other second
    × AreValues (Some second) (Some value) values)

-- no word, one option with its value, or two different ones
abbrev pub AreOptions : Verb → List Word → Values → Type 0
AreOptions verb [] values = AreValues None None values
AreOptions verb (flag ∷ []) values = ⊥
AreOptions verb (flag ∷ value ∷ []) values = IsOneOption verb flag value values
AreOptions verb (flag ∷ value ∷ other ∷ []) values = ⊥
AreOptions verb (flag ∷ value ∷ other ∷ second ∷ []) values =
    AreBothOptions verb flag value other second values
AreOptions verb (flag ∷ value ∷ other ∷ second ∷ one ∷ more) values = ⊥

-- ---- 2. the five shapes

-- after the last word of the line no quote is open, and a verb that waits for a relation has one
abbrev pub MayEnd : Verb → End → Values → Type 0
MayEnd verb (Open place) values = ⊥
MayEnd verb (Closed place) values = needs_relation verb ≡ true → is_some values.message ≡ true

-- after a suite comes the end, or a dot and options
abbrev pub FollowSuite : Verb → List Word → Values → Type 0
FollowSuite verb [] values = AreValues None None values
FollowSuite verb (dot ∷ words) values = (is_dot dot ≡ true) × AreOptions verb words values

-- after a dot comes the end, options, or a suite, which isn't spelled as an option, and what
-- follows it
abbrev pub FollowDot : Verb → List (List ℕ) → List Word → Values → Type 0
FollowDot verb suites [] values = AreValues None None values
FollowDot verb suites (word ∷ words) values =
    ((is_option word ≡ true) × AreOptions verb (word ∷ words) values)
    ⊎ ((is_option word ≡ false) × (is_suite suites word.text ≡ true)
    × FollowSuite verb words values)

-- after the architectures comes the end, or a dot and more
abbrev pub FollowArchs : Verb → List (List ℕ) → Option (List Word) → Values → Type 0
FollowArchs verb suites None values = AreValues None None values
FollowArchs verb suites (Some words) values = FollowDot verb suites words values

-- what follows the architectures is read so if and only if it has one of these shapes, and the line
-- may end after it
abbrev pub TailsAreExact : Type 0
TailsAreExact = (verb : Verb) (suites : List (List ℕ)) (end : End) (behind : Option (List Word))
    (values : Values) →
    (tail_at verb suites end behind ≡ Ok values)
    ↔ (FollowArchs verb suites behind values × MayEnd verb end values)
