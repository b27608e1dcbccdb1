-- `push_between_bars`: the clauses `err` and `ok` and its loop.
use Rattle.std.proofs.Common.{map, arith}
use Rattle.td_relation.specs.Asked.{asked}
use Rattle.td_relation.specs.RelationGrammar.{alternative_step}
use Rattle.td_relation.proofs.PieceLaws.{taken, stepped, faulted, ends}
use Rattle.td_relation.proofs.relation_reading.push_between_bars.Goals as goal

pub returns-in-Err-clause-err : goal.returns-in-Err-clause-err
returns-in-Err-clause-err c =
    let seen = map asked c.loop-rest.list.items in
    let h = taken alternative_step 124 seen c.loop-rest.rest c.in-Some.text _ _ _ c.in-Some.is
    c.next_piece.ensures.pieces c.loop-rest.invariant.decides in
    faulted alternative_step c.in-Err.fault seen c.next_piece.result.0.now _ _ c.in-Err.ensures.err
    h

pub loop-rest-preserved : goal.loop-rest-preserved
loop-rest-preserved c =
    let seen = map asked c.loop-rest.list.items in
    let h = taken alternative_step 124 seen c.loop-rest.rest c.in-Some.text _ _ _ c.in-Some.is
    c.next_piece.ensures.pieces c.loop-rest.invariant.decides in
    record {
      decides = stepped alternative_step seen _ c.next_piece.result.0.now _ _ c.in-Ok.ensures.ok h;
      longer = (let more = c.in-Ok.ensures.longer in omega arith);
    }

pub returns-clause-ok : goal.returns-clause-ok
returns-clause-ok c =
    ends alternative_step 124 (map asked c.loop-rest.list.items) c.loop-rest.rest _ c.in_default.is
    c.loop-rest.invariant.decides
