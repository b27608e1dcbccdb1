-- What the loop of `relation_of` keeps.
use Rattle.std.proofs.Common.{◌≡◌, map, take, string_bytes}
use Rattle.td_plan.specs.Relations.{relation_of}
use Rattle.td_plan.specs.inner.Waiting.{seen}
use Rattle.td_plan.proofs.relations.relation_of.Given as goal

-- the members so far
abbrev pub invariant-loop-number : goal.invariant-loop-number
invariant-loop-number l = string_bytes l.text ≡ relation_of (map seen (take l.number l.waits))
