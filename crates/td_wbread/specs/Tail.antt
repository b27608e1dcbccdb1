-- What follows the architectures of a command line: a suite and options.
-- This project's own, in the style of wanna-build.
use Rattle.std.specs.Prelude.{ℕ, ◌&&◌, ◌||◌, Bool, true, false, List, [], ◌∷◌, Option, Some, None}
use Rattle.std.specs.Prelude.{is_none, is_ok, Result, Ok, Err, codes, if◌then◌else◌}
use Rattle.std.specs.List.{list_any}
use Rattle.std.specs.Str.{bytes_eq}
use Rattle.td_text.specs.Lines.{on_ok}
use Rattle.td_relation.specs.declared.relation_fault.RelationFault.{RelationFault}
use Rattle.td_relation.specs.declared.relation_fault.RelationFault.TheVariants as relation
use Rattle.td_relation.specs.RelationGrammar.{relation_at}
use Rattle.td_wbread.specs.declared.command.Verb.{Verb}
use Rattle.td_wbread.specs.declared.command.Verb.TheVariants.{Gb, Nmu, Bp, Dw}
use Rattle.td_wbread.specs.declared.option_reading.Flag.{Flag}
use Rattle.td_wbread.specs.declared.option_reading.Flag.TheVariants.{Message, ExtraDepends}
use Rattle.td_wbread.specs.declared.fault.CommandFault.{CommandFault}
use Rattle.td_wbread.specs.declared.fault.CommandFault.TheVariants.{Wrong, NoMemory}
use Rattle.td_wbread.specs.declared.fault.LineFault.{LineFault}
use Rattle.td_wbread.specs.declared.fault.LineFault.TheVariants.{UnterminatedQuote, UnknownSuite}
use Rattle.td_wbread.specs.declared.fault.LineFault.TheVariants.{BadRelation, MissingMessage, Extra}
use Rattle.td_wbread.specs.declared.fault.LineFault.TheVariants.{MissingValue}
use Rattle.td_wbread.specs.declared.word.Word.{Word}
use Rattle.td_wbread.specs.declared.word.End.{End}
use Rattle.td_wbread.specs.declared.word.End.TheVariants.{Closed, Open}
use Rattle.td_wbread.specs.Faults.{is_dot, is_sign, missing}

-- the words that the options have as their values
pub record Values : Type 0 where
  pub message : Option Word
  pub extra : Option Word

-- before any option
abbrev pub no_values : Values
no_values = record { message = None; extra = None }

-- `-m`
abbrev pub is_message : Word → Bool
is_message word = is_sign (codes "-m") word

-- `--extra-depends`
abbrev pub is_extra : Word → Bool
is_extra word = is_sign (codes "--extra-depends") word

-- one of the options
abbrev pub is_option : Word → Bool
is_option word = is_message word || is_extra word

-- the verbs that take `-m`
abbrev pub takes_message : Verb → Bool
takes_message Gb = false
takes_message (Nmu number) = true
takes_message (Bp priority) = false
takes_message Dw = true

-- the verb that takes `--extra-depends`
abbrev pub takes_extra : Verb → Bool
takes_extra Gb = false
takes_extra (Nmu number) = true
takes_extra (Bp priority) = false
takes_extra Dw = false

-- the verb whose message is a relation, which can't be left out
abbrev pub needs_relation : Verb → Bool
needs_relation Gb = false
needs_relation (Nmu number) = false
needs_relation (Bp priority) = false
needs_relation Dw = true

-- the option that this word is, if the verb takes it and it comes for the first time
abbrev pub flag_at : Verb → Values → Word → Result Flag CommandFault
flag_at verb seen word =
    if is_message word && (takes_message verb && is_none seen.message) then Ok Message
    else (if is_extra word && (takes_extra verb && is_none seen.extra) then Ok ExtraDepends
    else Err (Wrong Extra word.place))

-- what is wrong where the value of an option is missing
abbrev pub missing_value : Flag → LineFault
missing_value Message = MissingMessage
missing_value ExtraDepends = MissingValue

-- the value of an option and the words that follow it, or that the value is missing
abbrev pub value_at : End → Flag → List Word → Result (Word × List Word) CommandFault
value_at end flag [] = Err (missing end (missing_value flag))
value_at end flag (value ∷ words) = Ok (value, words)

-- a text that is a relation (Debian Policy 7.1)
abbrev pub is_relation : List ℕ → Bool
is_relation text = is_ok (relation_at text)

-- this word is a relation
abbrev pub relation_checked : Word → Result Unit CommandFault
relation_checked word = if is_relation word.text then Ok tt else Err (Wrong BadRelation word.place)

-- the fault of a word that can't be read as a relation for this cause: it is no relation, unless
-- memory ran out
abbrev pub unread_relation : RelationFault → Word → CommandFault
unread_relation relation.NoMemory word = NoMemory
unread_relation fault word = Wrong BadRelation word.place

-- whether the value of an option has to be a relation
abbrev pub wants_relation : Verb → Flag → Bool
wants_relation verb Message = needs_relation verb
wants_relation verb ExtraDepends = true

-- a word that is an option of the verb, with a relation as its value
abbrev pub asks_relation : Verb → Word → Bool
asks_relation verb word =
    (is_message word && needs_relation verb) || (is_extra word && takes_extra verb)

-- the values seen with that of one more option
abbrev pub with_value : Flag → Values → Word → Values
with_value Message seen value = record { message = Some value; extra = seen.extra }
with_value ExtraDepends seen value = record { message = seen.message; extra = Some value }

-- the value of an option is a relation, where it has to be one
abbrev pub valued : Verb → Flag → Values → Word → Result Values CommandFault
valued verb flag seen value =
    if wants_relation verb flag
    then on_ok (relation_checked value) (λ _. Ok (with_value flag seen value))
    else Ok (with_value flag seen value)

-- the line may end here
abbrev pub finished : Verb → End → Values → Result Values CommandFault
finished verb (Open place) seen = Err (Wrong UnterminatedQuote place)
finished verb (Closed place) seen = if needs_relation verb && is_none seen.message
    then Err (Wrong MissingMessage place) else Ok seen

-- options with their values, up to the end
unfoldable pub options_at : Verb → End → Values → List Word → Result Values CommandFault
options_at verb end seen [] = finished verb end seen
options_at verb end seen (word ∷ []) = on_ok (flag_at verb seen word)
    (λ flag. Err (missing end (missing_value flag)))
options_at verb end seen (word ∷ (value ∷ words)) =
    on_ok (flag_at verb seen word) (λ flag.
    on_ok (valued verb flag seen value) (λ more.
    options_at verb end more words))

-- what follows the suite: nothing, or a dot and options
abbrev pub suite_end : Verb → End → List Word → Result Values CommandFault
suite_end verb end [] = finished verb end no_values
suite_end verb end (word ∷ words) = if is_dot word then options_at verb end no_values words
    else Err (Wrong Extra word.place)

-- one of the suites
abbrev pub is_suite : List (List ℕ) → List ℕ → Bool
is_suite suites name = list_any (λ s. bytes_eq s name) suites

-- what follows the dot after the architectures: nothing, options, or a suite
abbrev pub dot_end : Verb → List (List ℕ) → End → List Word → Result Values CommandFault
dot_end verb suites end [] = finished verb end no_values
dot_end verb suites end (word ∷ words) =
    if is_option word then options_at verb end no_values (word ∷ words)
    else (if is_suite suites word.text then suite_end verb end words
    else Err (Wrong UnknownSuite word.place))

-- what follows the architectures: nothing, or a dot and more
abbrev pub tail_at : Verb → List (List ℕ) → End → Option (List Word) → Result Values CommandFault
tail_at verb suites end None = finished verb end no_values
tail_at verb suites end (Some words) = dot_end verb suites end words
