-- `put_levels`: what it answers and the call of `blocks`.
use Rattle.std.proofs.Common.{map, string_bytes}
use Rattle.std.proofs.lemmas.Result.{on_ok_weaker}
use Rattle.td_report.specs.inner.ItemLines.{seen}
use Rattle.td_report.specs.Report.{block_of}
use Rattle.td_report.proofs.Lists.{counts-grouped}
use Rattle.td_report.proofs.Texts.{blocks-put}
use Rattle.td_report.proofs.report_text.put_levels.Goals as goal

pub blocks-requires : goal.blocks-requires
blocks-requires g c = counts-grouped c.args.depth c.args.items.now c.in_ok-grouped.grouped
    c.args.counts c.in_ok-grouped.ensures c.requires.counts

pub returns : goal.returns
returns g c = on_ok_weaker c.put_blocks.result
    (blocks-put (block_of (g.L.Lines.shown c.args.lines.now)) c.args.depth
    (map seen c.args.items.now) c.in_ok-blocks.blocks.items
    c.deref.result.now (string_bytes c.args.out.now) (string_bytes c.put_blocks.new.out)
    (c.in_ok-blocks.ensures c.args.depth c.args.items.now c.in_ok-grouped.ensures)
    c.deref.ensures.value)
    c.put_blocks.ensures
