-- What is said of a line that is no command, by its first fault. This project's own.
use Rattle.std.specs.Prelude.{ℕ, ◌||◌, ◌&&◌, Bool, List, [], ◌∷◌, ◌++◌, Result, Ok, Err, codes}
use Rattle.std.specs.Prelude.{chars, nat_eq, if◌then◌else◌}
use Rattle.std.specs.List.{starts_with}
use Rattle.std.specs.Str.{bytes_eq}
use Rattle.td_explain.specs.Shown.{max_shown, shown}
use Rattle.td_relation.specs.Arch.{ArchWords}
use Rattle.td_script.specs.Reading.{first_word}
use Rattle.td_wbread.specs.declared.fault.CommandFault.{CommandFault}
use Rattle.td_wbread.specs.declared.fault.LineFault.{LineFault}
use Rattle.td_wbread.specs.declared.fault.LineFault.TheVariants.{UnterminatedQuote, UnknownCommand}
use Rattle.td_wbread.specs.declared.fault.LineFault.TheVariants.{BadNumber, NoPackage, BadPackage}
use Rattle.td_wbread.specs.declared.fault.LineFault.TheVariants.{NoDot, NoArch, UnknownArch}
use Rattle.td_wbread.specs.declared.fault.LineFault.TheVariants.{UnknownSuite, BadRelation}
use Rattle.td_wbread.specs.declared.fault.LineFault.TheVariants.{MissingMessage, Extra}
use Rattle.td_wbread.specs.declared.fault.LineFault.TheVariants.{MissingValue}
use Rattle.td_wbread.specs.Command.{CommandParts, command_at}
use Rattle.td_lines.specs.Pieces.{before, is_one_word, word_at}

-- a word, and what is said of it
abbrev pub of_word : List ℕ → List ℕ → List ℕ
of_word word said = shown max_shown (chars word) ++ (codes ": " ++ said)

-- the number that a verb takes
abbrev pub number_wanted : List ℕ → List ℕ
number_wanted verb =
    if bytes_eq verb (codes "bp") then codes "bp takes a priority from -9999 to 9999"
    else codes "nmu takes a number from 1 to 9999"

-- a word is one that chooses architectures
abbrev pub is_choice : List ℕ → Bool
is_choice word =
    bytes_eq word (codes "ANY")
    || (bytes_eq word (codes "ALL") || starts_with nat_eq word (codes "-"))

-- what a word among the packages should be
abbrev pub package_wanted : List ℕ → List ℕ
package_wanted word =
    if is_choice word then codes "is the dot before it missing?"
    else codes "no package, as NAME or NAME_VERSION"

-- a word is an option's name
abbrev pub is_option : List ℕ → Bool
is_option word = bytes_eq word (codes "-m") || bytes_eq word (codes "--extra-depends")

-- a message or a relation of one word: the word that follows it may be its second
abbrev pub unquoted : Bool → Bool → List ℕ → List ℕ
unquoted message extra word =
    if message && extra then codes "an option takes one word: quote its text"
    else (if message then codes "-m takes one word: quote the message"
    else (if extra then codes "--extra-depends takes one word: quote the relation"
    else of_word word (codes "no word is wanted here")))

-- what is said of a word too many, by what the words before it are
abbrev pub extra_said : Result CommandParts CommandFault → List ℕ → List ℕ
extra_said (Ok c) word =
    if is_option word then of_word word (codes "no word is wanted here")
    else unquoted (is_one_word c.message) (is_one_word c.extra) word
extra_said (Err fault) word = of_word word (codes "no word is wanted here")

-- what is said of a fault at a place of a line
abbrev pub fault_said : List ArchWords → List ℕ → List ℕ → LineFault → ℕ → List ℕ
fault_said table suite line UnterminatedQuote place =
    of_word (word_at place line) (codes "this quote isn't closed")
fault_said table suite line UnknownCommand place =
    of_word (word_at place line) (codes "no command and no request")
fault_said table suite line BadNumber place =
    of_word (word_at place line) (number_wanted (first_word line))
fault_said table suite line NoPackage place = codes "a package is missing before the dot"
fault_said table suite line BadPackage place =
    of_word (word_at place line) (package_wanted (word_at place line))
fault_said table suite line NoDot place = codes "the dot after the packages is missing"
fault_said table suite line NoArch place = codes "an architecture is missing after the dot"
fault_said table suite line UnknownArch place =
    of_word (word_at place line) (codes "no architecture of the table")
fault_said table suite line UnknownSuite place =
    of_word (word_at place line) (codes "no suite of this run; wanted: " ++ suite)
fault_said table suite line BadRelation place =
    of_word (word_at place line) (codes "no relation")
fault_said table suite line MissingMessage place =
    codes "a message is missing: -m, and a text in quotes"
fault_said table suite line Extra place =
    extra_said (command_at table (suite ∷ []) (before place line)) (word_at place line)
fault_said table suite line MissingValue place =
    codes "a relation is missing after --extra-depends"
