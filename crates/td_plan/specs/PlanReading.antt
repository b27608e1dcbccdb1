-- How a plan is read as a script: its lines that are no comments are its commands, in their order.
-- This project's own.
use Rattle.std.specs.Prelude.{◌≡◌, ℕ, ◌==◌, IsTrue, List, [], ◌∷◌, Option, Some, None, Result, Ok}
use Rattle.std.specs.Prelude.{map, if◌then◌else◌}
use Rattle.std.specs.List.{Contains, filter_map}
use Rattle.td_text.specs.Words.{is_name}
use Rattle.td_version.specs.Grammar.{IsVersion}
use Rattle.td_relation.specs.Arch.{ArchFits, ArchWords}
use Rattle.td_indices.specs.Kept.{KeptBinary}
use Rattle.td_indices.specs.Sources.{KeptSource}
use Rattle.td_wbread.specs.Command.{CommandParts, command_at}
use Rattle.td_wbread.specs.Tail.{is_suite as is_known_suite}
use Rattle.td_wbread.specs.declared.fault.CommandFault.{CommandFault}
use Rattle.td_plan.specs.Lines.{Words}
use Rattle.td_plan.specs.Message.{can_be_quoted, is_suite}
use Rattle.td_plan.specs.Placing.{Placing}
use Rattle.td_plan.specs.Plan.{plan_lines}
use Rattle.td_plan.specs.PlayLaws.{plan_commands}
use Rattle.td_plan.specs.Premises.{AreSound, Premises}

-- the names and versions of an archive are names and versions, as in every one that was read, and
-- lines can have the message and the suite
pub record AreReadable (words : Words) (p : Premises) : Type 0 where
  pub table : (a : ArchWords) → Contains p.archive.table a → ArchFits a
  pub source : (s : KeptSource) → Contains p.archive.sources s → IsTrue (is_name s.head.name)
  pub version : (s : KeptSource) → Contains p.archive.sources s
      → IsVersion s.head.version s.head.parts
  pub binary : (b : KeptBinary) → Contains p.archive.binaries b → IsTrue (is_name b.head.name)
  pub binary_version : (b : KeptBinary) → Contains p.archive.binaries b
      → IsVersion b.head.version b.head.parts
  pub message : IsTrue (can_be_quoted words.message)
  pub suite : IsTrue (is_suite words.suite)

-- what a line says: one that begins with `#` is skipped, and any other is a command, or none
abbrev pub said_by : List ArchWords → List (List ℕ) → List ℕ
    → Option (Result CommandParts CommandFault)
said_by table suites [] = Some (command_at table suites [])
said_by table suites (c ∷ line) = if c == 35 then None
    else Some (command_at table suites (c ∷ line))

-- what the lines of a plan say, one after the other, are the plan's commands
abbrev pub PlansAreRead : Type 0
PlansAreRead = (words : Words) (p : Premises) (x : Placing) (suites : List (List ℕ))
    → AreSound p → AreReadable words p → IsTrue (is_known_suite suites words.suite)
    → filter_map (said_by p.archive.table suites) (plan_lines words x p)
    ≡ map (λ c. Ok c) (plan_commands words x p)
