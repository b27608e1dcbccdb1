-- `first_unread`: what it answers, and its loop.
use Rattle.std.proofs.Common.{◌≡◌, true, false, rules}
use Rattle.td_explain.specs.Unread.{is_read}
use Rattle.td_explain.proofs.Unreads.{ends, passes, stands}
use Rattle.td_explain.proofs.unread.first_unread.Goals as goal

pub returns-then-not-branch : goal.returns-then-not-branch
returns-then-not-branch c =
    let unread : is_read c.next_piece.result.0.now ≡ false = search rules in
    stands c.loop-rest.rest c.in-Some.here c.next_piece.result.0.now _ _ c.in-Some.is
    c.next_piece.ensures.pieces unread c.loop-rest.invariant

pub loop-rest-preserved : goal.loop-rest-preserved
loop-rest-preserved c =
    let read : is_read c.next_piece.result.0.now ≡ true = search rules in
    passes c.loop-rest.rest c.in-Some.here c.next_piece.result.0.now _ _ c.in-Some.is
    c.next_piece.ensures.pieces read c.loop-rest.invariant

pub returns : goal.returns
returns c = ends c.loop-rest.rest _ c.in_default.is c.loop-rest.invariant
