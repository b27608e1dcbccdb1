-- `lines_of`: its loop.
use Rattle.std.proofs.Common.{string_bytes}
use Rattle.td_report.proofs.Texts.{lines-more}
use Rattle.td_report.proofs.lines.lines_of.Goals as goal

pub loop-item-preserved : goal.loop-item-preserved
loop-item-preserved c =
    lines-more c.args.shown c.args.items.now c.loop-item.item-index c.item-item.result
    (string_bytes c.loop-item.text) (string_bytes c.put_shown.new.out)
    c.loop-item-test.true c.item-item.is c.in_ok-put_shown.ensures c.loop-item.invariant
