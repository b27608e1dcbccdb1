-- What the loop of `Steps::grouped` keeps.
use Rattle.std.proofs.Common.{◌≡◌, ℕ, ◌+◌, ◌<◌, length, take}
use Rattle.td_indices.specs.Archive.{places_from}
use Rattle.td_report.specs.Report.{is_level}
use Rattle.td_waves.specs.Graph.{bases_of, lists}
use Rattle.td_waves.specs.WavesView.{depth_of, level_of}
use Rattle.td_waves.specs.declared.level.Level.TheVariants.{At, Cyclic}
use Rattle.td_plan.specs.inner.Movers.{mover_name}
use Rattle.td_plan.proofs.steps.Steps.grouped.Given as goal

-- the sources so far
abbrev pub invariant-loop-number : goal.invariant-loop-number
invariant-loop-number l = record {
  len : length l.grouped.levels.items ≡ depth_of l.waves;
  levels : (n : ℕ) → n < depth_of l.waves → bases_of (lists l.grouped.levels.items) n
      ≡ places_from (λ m. is_level (At (n + 1)) (level_of l.waves (mover_name m))) 0
      (take l.number l.self.movers.items);
  cyclic : l.grouped.cyclic.items
      ≡ places_from (λ m. is_level Cyclic (level_of l.waves (mover_name m))) 0
      (take l.number l.self.movers.items);
}
