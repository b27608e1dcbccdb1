-- When a line of a table of architectures has a flaw. This project's own.
use Rattle.std.specs.Prelude.{◌≡◌, ◌↔◌, ℕ, List, IsSome}
use Rattle.td_relation.specs.ArchReading.{arch_at}
use Rattle.td_explain.specs.ArchFlaw.{flaw_in}
use Rattle.td_explain.specs.declared.flaw.ArchFlaw.TheVariants as flaw

-- nothing is wrong with a line if and only if it is read as an architecture's
abbrev pub FlawsAreExact : Type 0
FlawsAreExact = (line : List ℕ) → (flaw_in line ≡ flaw.Nothing) ↔ IsSome (arch_at line)
