-- What the loop of `read_members` keeps, and why it ends.
use Rattle.std.proofs.Common.{◌≡◌, [], false, length, map}
use Rattle.td_relation.specs.Asked.{asked}
use Rattle.td_relation.specs.Members.{chunked, total}
use Rattle.td_text.specs.Lines.{left_len, pieces_left, pieces_of}
use Rattle.td_relation.specs.RelationGrammar.{over, member_step}
use Rattle.td_relation.proofs.PieceLaws.{LeftLacks}
use Rattle.td_relation.proofs.relation_reading.read_members.Given as goal

abbrev pub decreases-loop-rest : goal.decreases-loop-rest
decreases-loop-rest l = left_len l.rest

-- what is left decides, and has no bar where the text has none
abbrev pub invariant-loop-rest : goal.invariant-loop-rest
invariant-loop-rest l = record {
  decides : over member_step (chunked l.sizes.items (map asked l.alternatives.items))
      (pieces_left 44 l.rest) ≡ over member_step [] (pieces_of 44 l.fn.text);
  whole : total l.sizes.items ≡ length l.alternatives.items;
  alone : l.barred ≡ false → LeftLacks 124 l.rest;
}
