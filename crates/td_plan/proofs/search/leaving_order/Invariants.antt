-- What the loop of `leaving_order` keeps.
use Rattle.std.proofs.Common.{◌≡◌, ◌<◌, length}
use Rattle.std.specs.List.{All}
use Rattle.td_plan.proofs.search.leaving_order.Given as goal

-- what is left are nodes
abbrev pub invariant-loop-root : goal.invariant-loop-root
invariant-loop-root l = record {
  order : All (λ n. n < length l.graph) l.order.items;
  len : length l.seen.items ≡ length l.graph;
}
