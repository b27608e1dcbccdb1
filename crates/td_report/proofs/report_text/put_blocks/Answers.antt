-- `put_blocks`: its loop.
use Rattle.std.proofs.Common.{string_bytes}
use Rattle.td_report.specs.Report.{block_of}
use Rattle.td_report.proofs.Texts.{texts-more}
use Rattle.td_report.proofs.report_text.put_blocks.Goals as goal

pub loop-block-preserved : goal.loop-block-preserved
loop-block-preserved g c =
    texts-more (block_of (g.L.Lines.shown c.args.lines.now)) c.args.blocks.now
    c.loop-block.block-index c.block-item.result
    (string_bytes c.args.out.now) (string_bytes c.loop-block.out)
    (string_bytes c.put_block.new.out) c.loop-block-test.true c.block-item.is
    c.in_ok-put_block.ensures c.loop-block.invariant
