-- What the loop of `push_between_bars` keeps, and why it ends.
use Rattle.std.proofs.Common.{◌≡◌, ◌≤◌, length, map}
use Rattle.td_relation.specs.Asked.{asked}
use Rattle.td_text.specs.Lines.{left_len, pieces_left, pieces_of}
use Rattle.td_relation.specs.RelationGrammar.{over, alternative_step}
use Rattle.td_relation.proofs.relation_reading.push_between_bars.Given as goal

abbrev pub decreases-loop-rest : goal.decreases-loop-rest
decreases-loop-rest l = left_len l.rest

-- what is left decides
abbrev pub invariant-loop-rest : goal.invariant-loop-rest
invariant-loop-rest l = record {
  decides : over alternative_step (map asked l.list.items) (pieces_left 124 l.rest)
      ≡ over alternative_step (map asked l.fn.list.items) (pieces_of 124 l.fn.text);
  longer : length l.fn.list.items ≤ length l.list.items;
}
