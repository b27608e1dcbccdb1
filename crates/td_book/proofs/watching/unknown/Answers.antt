-- `unknown`: its loop.
use Rattle.std.proofs.Common.{sym, ◌∙◌}
use Rattle.td_book.proofs.Groups.{unknown-later, pair_at, row_there}
use Rattle.td_book.proofs.watching.unknown.Goals as goal

pub loop-pair-preserved : goal.loop-pair-preserved
loop-pair-preserved c =
    let p = c.pair-item.result in
    let i = c.loop-pair.pair-index in
    let row = row_there c.args.rows.now p.0 c.in-Some._number c.len-rising.ensures.rising
    c.in-Some.ensures.found in
    sym (unknown-later c.args.rows.now c.args.given.now i p row.0
    (pair_at c.args.given.now i p c.loop-pair-test.true c.pair-item.is) row.1)
    ∙ c.loop-pair.invariant
