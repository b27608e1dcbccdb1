-- Which words are a command line, and what is wrong first with those that aren't.
-- This project's own, in the style of wanna-build.
use Rattle.std.specs.Prelude.{ℕ, List, [], Option, Some, None, Result, Ok}
use Rattle.td_text.specs.Lines.{on_ok}
use Rattle.td_relation.specs.Arch.{ArchWords}
use Rattle.td_wbread.specs.declared.command.Verb.{Verb}
use Rattle.td_wbread.specs.declared.fault.CommandFault.{CommandFault}
use Rattle.td_wbread.specs.declared.word.Word.{Word}
use Rattle.td_wbread.specs.declared.word.End.{End}
use Rattle.td_wbread.specs.Archs.{archs_at, chosen_names}
use Rattle.td_wbread.specs.Packages.{PackageText, packages_at, packages_of}
use Rattle.td_wbread.specs.Tail.{Values, tail_at}
use Rattle.td_wbread.specs.Verbs.{verb_at}
use Rattle.td_wbread.specs.Words.{end_of, words_of}

-- a command: the names of its architectures in the order of the table, and its texts, empty where
-- none is given
pub record CommandParts : Type 0 where
  pub verb : Verb
  pub packages : List PackageText
  pub archs : List (List ℕ)
  pub message : List ℕ
  pub extra : List ℕ

-- the text of a word, or none
abbrev pub text_or_empty : Option Word → List ℕ
text_or_empty None = []
text_or_empty (Some word) = word.text

-- what stands at the head of a command line: its verb with its number, its packages, its
-- architectures, and the words after the dot that may follow these
pub record Head : Type 0 where
  pub verb : Verb
  pub packages : List Word
  pub archs : List Word
  pub behind : Option (List Word)

-- the head of a command line, or what is wrong first with it: verb and number, packages, dot,
-- architectures
abbrev pub head_at : List ArchWords → End → List Word → Result Head CommandFault
head_at table end words =
    on_ok (verb_at end words) (λ verb.
    on_ok (packages_at end verb.1) (λ packages.
    on_ok (archs_at table end packages.1) (λ archs.
    Ok (record { verb = verb.0; packages = packages.0; archs = archs.0; behind = archs.1 }))))

-- the words of a command by what they are
pub record Spoken : Type 0 where
  pub verb : Verb
  pub packages : List Word
  pub archs : List Word
  pub values : Values

-- the parts of a command line, or what is wrong first: its head, and what follows that
unfoldable pub spoken_at : List ArchWords → List (List ℕ) → End → List Word
    → Result Spoken CommandFault
spoken_at table suites end words =
    on_ok (head_at table end words) (λ head.
    on_ok (tail_at head.verb suites end head.behind) (λ values.
    Ok (record {
      verb = head.verb;
      packages = head.packages;
      archs = head.archs;
      values = values;
    })))

-- the command that the parts of a command line are
abbrev pub command_of : List ArchWords → Spoken → CommandParts
command_of table s = record {
  verb = s.verb;
  packages = packages_of s.packages;
  archs = chosen_names table s.archs;
  message = text_or_empty s.values.message;
  extra = text_or_empty s.values.extra;
}

-- the command that words are, or what is wrong first
abbrev pub command_from : List ArchWords → List (List ℕ) → End → List Word
    → Result CommandParts CommandFault
command_from table suites end words = on_ok (spoken_at table suites end words)
    (λ s. Ok (command_of table s))

-- the command that a line is, or what is wrong first
abbrev pub command_at : List ArchWords → List (List ℕ) → List ℕ → Result CommandParts CommandFault
command_at table suites line = command_from table suites (end_of line) (words_of line)
