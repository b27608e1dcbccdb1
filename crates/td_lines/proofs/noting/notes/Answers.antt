-- `notes`: what it answers, and its loop.
use Rattle.std.proofs.Common.{◌≡◌, ◌+◌, length, string_bytes, ap, arith}
use Rattle.td_indices.specs.Supplying.{supply_of}
use Rattle.td_text.specs.Lines.{left_len}
use Rattle.td_lines.proofs.Counting.{ends, goes_on}
use Rattle.td_lines.proofs.noting.notes.Goals as goal

pub loop-rest-preserved : goal.loop-rest-preserved
loop-rest-preserved c =
    let left : left_len c.loop-rest.rest ≡ length c.in-Some.lines.now + 1 =
    ap left_len c.in-Some.is in (
      goes_on (supply_of c.args.offered.now.archive.now) c.args.offered.now.suite.now
          c.loop-rest.number c.loop-rest.rest c.in-Some.lines c.next_line.result.0.now _
          (string_bytes c.loop-rest.out) _ _ c.in-Some.is c.next_line.ensures.lines
          c.in_ok-put_line.ensures c.loop-rest.invariant.0,
      omega (arith, left, c.next_line.ensures.shorter, c.loop-rest.invariant.1),
    )

pub returns : goal.returns
returns c =
    ends (supply_of c.args.offered.now.archive.now) c.args.offered.now.suite.now
    c.loop-rest.number c.loop-rest.rest (string_bytes c.loop-rest.out) _ c.in_default.is
    c.loop-rest.invariant.0
