-- What the loop of `put_waves` keeps.
use Rattle.std.proofs.Common.{◌≡◌, ◌++◌, take, string_bytes}
use Rattle.td_report.specs.inner.Blocks.{texts_of}
use Rattle.td_report.specs.Report.{wave_of}
use Rattle.td_report.proofs.waves_text.put_waves.Given as goal

-- the blocks so far
abbrev pub invariant-loop-block : goal.invariant-loop-block
invariant-loop-block l = string_bytes l.out ≡ string_bytes l.fn.out ++ texts_of wave_of
    (take l.block-index l.blocks)
