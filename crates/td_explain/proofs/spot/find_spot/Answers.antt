-- `find_spot`: its loop and the clause `value`.
use Rattle.std.proofs.Common.{◌≡◌, ◌+◌, true, false, length, ap, arith, rules}
use Rattle.td_text.specs.Lines.{left_len}
use Rattle.td_explain.specs.Spot.{is_at}
use Rattle.td_explain.proofs.Spots.{ends, passes, stands}
use Rattle.td_explain.proofs.spot.find_spot.Goals as goal

pub returns-then-is_at-clause-value : goal.returns-then-is_at-clause-value
returns-then-is_at-clause-value c =
    let here : is_at c.loop-rest.point c.loop-rest.apart c.next_line.result.0.now ≡ true =
    search rules in
    stands c.loop-rest.point c.loop-rest.apart c.loop-rest.number c.offset_of-offset.result
    c.loop-rest.rest c.in-Some.here c.next_line.result.0.now _ _
    c.in-Some.is c.next_line.ensures.lines here c.offset_of-offset.ensures c.loop-rest.invariant.0

pub loop-rest-preserved : goal.loop-rest-preserved
loop-rest-preserved c =
    let off : is_at c.loop-rest.point c.loop-rest.apart c.next_line.result.0.now ≡ false =
    search rules in
    let left : left_len c.loop-rest.rest ≡ length c.in-Some.here.now + 1 =
    ap left_len c.in-Some.is in (
      rw (c.beyond-point.ensures, c.is_separator-apart.ensures)
          (passes c.loop-rest.point c.loop-rest.apart c.loop-rest.number c.loop-rest.rest
          c.in-Some.here c.next_line.result.0.now _ _
          c.in-Some.is c.next_line.ensures.lines off c.loop-rest.invariant.0),
      omega (arith, left, c.next_line.ensures.shorter, c.loop-rest.invariant.1),
    )

pub returns-clause-value : goal.returns-clause-value
returns-clause-value c =
    ends c.loop-rest.point c.loop-rest.apart c.loop-rest.number c.loop-rest.rest _ c.in_default.is
    c.loop-rest.invariant.0
