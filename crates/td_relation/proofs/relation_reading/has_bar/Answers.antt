-- `has_bar`: the clauses `none` and `some`.
use Rattle.td_relation.proofs.PieceLaws.{lacks_by_left, left_by_lacks}
use Rattle.td_relation.proofs.relation_reading.has_bar.Goals as goal

pub returns-clause-none : goal.returns-clause-none
returns-clause-none c =
    lacks_by_left 124 c.args.text.now c.next_piece.result.0.now c.next_piece.result.1 c.is_some.result
    c.next_piece.ensures.text c.next_piece.ensures.piece c.is_some.ensures

pub returns-clause-some : goal.returns-clause-some
returns-clause-some c =
    left_by_lacks 124 c.args.text.now c.next_piece.result.0.now c.next_piece.result.1 c.is_some.result
    c.next_piece.ensures.text c.is_some.ensures
