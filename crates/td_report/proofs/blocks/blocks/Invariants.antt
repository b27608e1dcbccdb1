-- What the loop of `blocks` keeps.
use Rattle.std.proofs.Common.{◌≡◌, ℕ, List, map}
use Rattle.std.specs.List.{range_with_len}
use Rattle.td_waves.specs.declared.level.Level.TheVariants.{At}
use Rattle.td_report.specs.inner.Blocks.{told_at, told_of}
use Rattle.td_report.specs.inner.ItemLines.{seen}
use Rattle.td_report.specs.inner.Grouped.{AreByLevel}
use Rattle.td_report.specs.declared.item.Item.{Item}
use Rattle.td_report.proofs.blocks.blocks.Given as goal

-- the blocks of the levels so far
abbrev pub invariant-loop-number : goal.invariant-loop-number
invariant-loop-number l = (depth : ℕ) (items : List Item) → AreByLevel depth items l.grouped
    → map told_of l.blocks.items
    ≡ map (told_at (map seen items)) (map At (range_with_len 1 l.number))
