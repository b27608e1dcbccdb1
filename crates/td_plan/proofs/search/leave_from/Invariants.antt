-- What the loop of `leave_from` keeps.
use Rattle.std.proofs.Common.{◌≡◌, ◌<◌, length}
use Rattle.std.specs.List.{All}
use Rattle.td_plan.proofs.search.leave_from.Given as goal

-- what is gone to and left are nodes
abbrev pub invariant-loop-turn : goal.invariant-loop-turn
invariant-loop-turn l = record {
  stack : All (λ v. v.node < length l.graph) l.stack.items;
  order : All (λ n. n < length l.graph) l.order.items;
  len : length l.seen.items ≡ length l.fn.seen.items;
}
