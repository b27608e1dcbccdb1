-- What the loop of `put_archs` keeps.
use Rattle.std.proofs.Common.{◌≡◌, ◌++◌, map, take, string_bytes}
use Rattle.td_relation.specs.TableView.{table}
use Rattle.td_plan.specs.Lines.{spaced}
use Rattle.td_plan.specs.Premises.{arch_at}
use Rattle.td_plan.proofs.commands.put_archs.Given as goal

-- the names so far
abbrev pub invariant-loop-number : goal.invariant-loop-number
invariant-loop-number l = string_bytes l.out
    ≡ string_bytes l.fn.out ++ spaced (map (arch_at (table l.archs)) (take l.number l.places))
