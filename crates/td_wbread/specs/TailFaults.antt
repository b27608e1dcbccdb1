-- What is wrong first with what follows the architectures of a command line, and with a line as a
-- whole, said of its words. This project's own, in the style of wanna-build.
use Rattle.std.specs.Prelude.{◌≡◌, ◌↔◌, ◌⊎◌, ℕ, true, false, List, [], ◌∷◌, ◌++◌, Option, Some}
use Rattle.std.specs.Prelude.{None}
use Rattle.std.specs.Prelude.{Err}
use Rattle.td_relation.specs.Arch.{ArchWords}
use Rattle.td_wbread.specs.declared.command.Verb.{Verb}
use Rattle.td_wbread.specs.declared.option_reading.Flag.{Flag}
use Rattle.td_wbread.specs.declared.option_reading.Flag.TheVariants.{Message, ExtraDepends}
use Rattle.td_wbread.specs.declared.fault.CommandFault.{CommandFault}
use Rattle.td_wbread.specs.declared.fault.CommandFault.TheVariants.{Wrong}
use Rattle.td_wbread.specs.declared.fault.LineFault.TheVariants.{UnterminatedQuote, UnknownSuite}
use Rattle.td_wbread.specs.declared.fault.LineFault.TheVariants.{BadRelation, MissingMessage, Extra}
use Rattle.td_wbread.specs.declared.word.Word.{Word}
use Rattle.td_wbread.specs.declared.word.End.{End}
use Rattle.td_wbread.specs.declared.word.End.TheVariants.{Closed, Open}
use Rattle.td_wbread.specs.ArchLaws.{AreArchs}
use Rattle.td_wbread.specs.Command.{command_at}
use Rattle.td_wbread.specs.Faults.{is_dot, missing}
use Rattle.td_wbread.specs.HeadFaults.{IsHeadFault}
use Rattle.td_wbread.specs.PackageLaws.{ArePackages}
use Rattle.td_wbread.specs.Tail.{Values, is_extra, is_message, is_option, is_relation, is_suite}
use Rattle.td_wbread.specs.Tail.{missing_value, needs_relation, no_values, tail_at, takes_extra}
use Rattle.td_wbread.specs.Tail.{takes_message, wants_relation}
use Rattle.td_wbread.specs.TailLaws.{AreOptions}
use Rattle.td_wbread.specs.VerbLaws.{IsVerb}
use Rattle.td_wbread.specs.WordLaws.{AreWords}

-- ---- 1. the end

-- the line may not end so: a quote is open, or the verb's relation is missing
abbrev pub IsEndFault : Verb → End → Values → CommandFault → Type 0
IsEndFault verb (Open place) seen fault = fault ≡ Wrong UnterminatedQuote place
IsEndFault verb (Closed place) seen fault = (needs_relation verb ≡ true) × (seen.message ≡ None)
    × (fault ≡ Wrong MissingMessage place)

-- ---- 2. options

-- the word is this option, the verb takes it, and it comes for the first time
abbrev pub MayStand : Verb → Values → Word → Flag → Type 0
MayStand verb seen word Message =
    (is_message word ≡ true) × (takes_message verb ≡ true) × (seen.message ≡ None)
MayStand verb seen word ExtraDepends =
    (is_extra word ≡ true) × (takes_extra verb ≡ true) × (seen.extra ≡ None)

-- what is wrong after an option: its value is missing, or isn't the relation that it has to be
abbrev pub IsValueFault : Verb → End → Flag → List Word → CommandFault → Type 0
IsValueFault verb end flag [] fault = fault ≡ missing end (missing_value flag)
IsValueFault verb end flag (value ∷ words) fault = (wants_relation verb flag ≡ true)
    × (is_relation value.text ≡ false) × (fault ≡ Wrong BadRelation value.place)

-- what is wrong after options with these values: the end; a word that is no option there; or what
-- follows an option
abbrev pub IsNextFault : Verb → End → Values → List Word → CommandFault → Type 0
IsNextFault verb end seen [] fault = IsEndFault verb end seen fault
IsNextFault verb end seen (word ∷ words) fault =
    (((flag : Flag) → ¬ MayStand verb seen word flag) × (fault ≡ Wrong Extra word.place))
    ⊎ ((flag : Flag) × MayStand verb seen word flag × IsValueFault verb end flag words fault)

-- what is wrong first with words that should be options: the words before it are options
abbrev pub IsOptionFault : Verb → End → List Word → CommandFault → Type 0
IsOptionFault verb end words fault = (front : List Word) × (rest : List Word) × (seen : Values)
    × (words ≡ front ++ rest) × AreOptions verb front seen × IsNextFault verb end seen rest fault

-- ---- 3. what follows the architectures

-- what is wrong first after a suite
abbrev pub IsSuiteFault : Verb → End → List Word → CommandFault → Type 0
IsSuiteFault verb end [] fault = IsEndFault verb end no_values fault
IsSuiteFault verb end (word ∷ words) fault =
    ((is_dot word ≡ false) × (fault ≡ Wrong Extra word.place))
    ⊎ ((is_dot word ≡ true) × IsOptionFault verb end words fault)

-- what is wrong first after the dot that follows the architectures
abbrev pub IsDotFault : Verb → List (List ℕ) → End → List Word → CommandFault → Type 0
IsDotFault verb suites end [] fault = IsEndFault verb end no_values fault
IsDotFault verb suites end (word ∷ words) fault =
    ((is_option word ≡ true) × IsOptionFault verb end (word ∷ words) fault)
    ⊎ (((is_option word ≡ false) × (is_suite suites word.text ≡ true)
    × IsSuiteFault verb end words fault)
    ⊎ ((is_option word ≡ false) × (is_suite suites word.text ≡ false)
    × (fault ≡ Wrong UnknownSuite word.place)))

-- what is wrong first after the architectures
abbrev pub IsTailFault : Verb → List (List ℕ) → End → Option (List Word) → CommandFault → Type 0
IsTailFault verb suites end None fault = IsEndFault verb end no_values fault
IsTailFault verb suites end (Some words) fault = IsDotFault verb suites end words fault

-- ---- 4. the line

-- a head is there, and what follows it is wrong
abbrev pub IsLateFault : List ArchWords → List (List ℕ) → End → List Word → CommandFault → Type 0
IsLateFault table suites end words fault =
    (verb : Verb) × (rest : List Word) × (packages : List Word) × (behind : List Word)
    × (archs : List Word) × (after : Option (List Word)) × IsVerb end words verb rest
    × ArePackages rest packages behind × AreArchs table behind archs after
    × IsTailFault verb suites end after fault

-- what is wrong first with a line: with the head of its words, or with what follows that
abbrev pub IsCommandFault : List ArchWords → List (List ℕ) → List ℕ → CommandFault → Type 0
IsCommandFault table suites line fault = (words : List Word) × (end : End)
    × AreWords 0 words end line
    × (IsHeadFault table end words fault ⊎ IsLateFault table suites end words fault)

-- what follows the architectures is refused with a fault if and only if that is wrong first
abbrev pub TailFaultsAreExact : Type 0
TailFaultsAreExact = (verb : Verb) (suites : List (List ℕ)) (end : End)
    (behind : Option (List Word)) (fault : CommandFault)
    → (tail_at verb suites end behind ≡ Err fault) ↔ IsTailFault verb suites end behind fault

-- a line is refused with a fault, at its place, if and only if that is wrong first with it
abbrev pub CommandFaultsAreExact : Type 0
CommandFaultsAreExact = (table : List ArchWords) (suites : List (List ℕ)) (line : List ℕ)
    (fault : CommandFault)
    → (command_at table suites line ≡ Err fault) ↔ IsCommandFault table suites line fault
