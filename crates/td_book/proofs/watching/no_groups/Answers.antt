-- `no_groups`: what it answers.
use Rattle.std.proofs.Common.{arith}
use Rattle.td_book.proofs.Groups.{no_groups-last}
use Rattle.td_book.proofs.watching.no_groups.Goals as goal

pub returns : goal.returns
returns c =
    let len = c.len-end.ensures.len in
    let test = c.loop-test.false in
    no_groups-last c.args.rows.now c.loop.counter c.loop.of_rows.items
    (omega arith) c.loop.invariant
