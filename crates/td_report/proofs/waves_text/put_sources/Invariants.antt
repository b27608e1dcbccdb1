-- What the loop of `put_sources` keeps.
use Rattle.std.proofs.Common.{◌≡◌, ◌++◌, None, map, option_map, take, string_bytes}
use Rattle.td_text.specs.Lines.{text_of}
use Rattle.td_report.specs.inner.ItemLines.{source_of}
use Rattle.td_report.specs.Report.{each_once}
use Rattle.td_report.proofs.Once.{last_of}
use Rattle.td_report.proofs.waves_text.put_sources.Given as goal

-- the rows so far
abbrev pub invariant-loop-item : goal.invariant-loop-item
invariant-loop-item l = record {
  text : string_bytes l.out ≡ string_bytes l.fn.out ++ text_of
      (each_once None (map source_of (take l.item-index l.items)));
  last : option_map (λ s. s.now) l.last ≡ last_of None (map source_of (take l.item-index l.items));
}
