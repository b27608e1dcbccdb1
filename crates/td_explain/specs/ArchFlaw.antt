-- What is wrong with a line of a table of architectures. This project's own.
use Rattle.std.specs.Prelude.{ℕ, not, List, Option, Some, None, if◌then◌else◌}
use Rattle.td_text.specs.Cut.{cut}
use Rattle.td_relation.specs.Arch.{is_machine_word, is_reserved}
use Rattle.td_relation.specs.Arch.{is_table_name}
use Rattle.td_explain.specs.declared.flaw.ArchFlaw.{ArchFlaw}
use Rattle.td_explain.specs.declared.flaw.ArchFlaw.TheVariants as flaw
use Rattle.td_explain.specs.declared.spot.Point.TheVariants.{Line}
use Rattle.td_explain.specs.Spot.{SpotWords, spot_of}

-- what is wrong with a name, an operating system and a processor: the first of them that isn't one
abbrev pub flaw_of_words : List ℕ → List ℕ → List ℕ → ArchFlaw
flaw_of_words name os cpu = if is_reserved name then flaw.Reserved
    else (if not (is_table_name name) then flaw.Name
    else (if not (is_machine_word os) then flaw.Os
    else (if not (is_machine_word cpu) then flaw.Cpu else flaw.Nothing)))

-- a name, and what follows the second space
abbrev pub flaw_after : List ℕ → Option (List ℕ × List ℕ) → ArchFlaw
flaw_after name None = flaw.Words
flaw_after name (Some p) = flaw_of_words name p.0 p.1

-- a name, and what follows the first space
abbrev pub flaw_of_cut : Option (List ℕ × List ℕ) → ArchFlaw
flaw_of_cut None = flaw.Words
flaw_of_cut (Some p) = flaw_after p.0 (cut 32 p.1)

-- what is wrong with a line: it is cut at its first two spaces
abbrev pub flaw_in : List ℕ → ArchFlaw
flaw_in line = flaw_of_cut (cut 32 line)

-- what is wrong with a line that is found
abbrev pub flaw_found : Option SpotWords → ArchFlaw
flaw_found None = flaw.Nothing
flaw_found (Some s) = flaw_in s.line

-- what is wrong with the line of a text that has this number
abbrev pub flaw_at : ℕ → List ℕ → ArchFlaw
flaw_at number text = flaw_found (spot_of (Line number) text)
