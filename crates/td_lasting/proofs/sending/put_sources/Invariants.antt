-- What the loop of `put_sources` keeps: what is written and what is left are all lines.
use Rattle.std.proofs.Common.{◌≡◌, ◌++◌, length, map}
use Rattle.std.specs.String.{string_bytes}
use Rattle.td_rows.specs.Appending.{Grown}
use Rattle.td_lasting.proofs.SentLines.{source_lines}
use Rattle.td_lasting.proofs.sending.put_sources.Given as goal

abbrev pub invariant-loop-rest : goal.invariant-loop-rest
invariant-loop-rest l = record {
  lines : string_bytes l.out
      ++ source_lines l.supply (map (λ s. s.now) l.suites) l.entry.kind l.rest
      ≡ string_bytes l.initial.out
      ++ source_lines l.supply (map (λ s. s.now) l.suites) l.entry.kind l.entry.keys;
  front : Grown (string_bytes l.initial.out) (string_bytes l.out);
}

abbrev pub decreases-loop-rest : goal.decreases-loop-rest
decreases-loop-rest l = length l.rest
