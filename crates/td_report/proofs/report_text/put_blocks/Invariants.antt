-- What the loop of `put_blocks` keeps.
use Rattle.std.proofs.Common.{◌≡◌, ◌++◌, take, string_bytes}
use Rattle.td_report.specs.inner.Blocks.{texts_of}
use Rattle.td_report.specs.Report.{block_of}
use Rattle.td_report.proofs.report_text.put_blocks.Given as goal

-- the blocks so far
abbrev pub invariant-loop-block : goal.invariant-loop-block
invariant-loop-block g l = string_bytes l.out ≡ string_bytes l.fn.out ++ texts_of
    (block_of (g.L.Lines.shown l.fn.lines)) (take l.block-index l.blocks)
