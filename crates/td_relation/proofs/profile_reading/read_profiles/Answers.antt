-- `read_profiles`: what it answers and its loop.
use Rattle.std.proofs.Common.{◌∙◌, ap, sym}
use Rattle.td_text.specs.Lines.{on_ok}
use Rattle.td_relation.specs.RelationGrammar.{profile_step, ended}
use Rattle.td_relation.proofs.PieceLaws.{taken, stepped, fails, ends}
use Rattle.td_relation.proofs.profile_reading.read_profiles.Goals as goal

pub returns-in-Err : goal.returns-in-Err
returns-in-Err c =
    let h = taken profile_step 62 c.loop-rest.seen c.loop-rest.rest c.in-Some.text _ _ _
    c.in-Some.is c.next_piece.ensures.pieces c.loop-rest.invariant in
    sym (ap (λ r. on_ok r ended)
    (fails profile_step c.loop-rest.seen c.next_piece.result.0.now _ _ c.in-Err.fault
    (sym c.in-Err.ensures) h))

pub loop-rest-preserved : goal.loop-rest-preserved
loop-rest-preserved c =
    let h = taken profile_step 62 c.loop-rest.seen c.loop-rest.rest c.in-Some.text _ _ _
    c.in-Some.is c.next_piece.ensures.pieces c.loop-rest.invariant in
    stepped profile_step c.loop-rest.seen c.in-Ok.more c.next_piece.result.0.now _ _
    (sym c.in-Ok.ensures) h

pub returns : goal.returns
returns c =
    c.ended.ensures ∙ sym (ap (λ r. on_ok r ended)
    (ends profile_step 62 c.loop-rest.seen c.loop-rest.rest _ c.in_default.is
    c.loop-rest.invariant))
