-- Affected rows in lists, by the levels of their sources.
use Rattle.std.specs.Prelude.{◌≡◌, ℕ, ◌+◌, ◌<◌, [], List, length, filter, map, slice_index_or}
use Rattle.std.specs.Global.{Vec}
use Rattle.td_waves.specs.declared.level.Level.TheVariants.{At, Cyclic}
use Rattle.td_report.specs.declared.item.Item.{Item}
use Rattle.td_report.specs.declared.grouping.Grouped.{Grouped}
use Rattle.td_report.specs.inner.ItemLines.{stands_at}

-- the list with a number, of vectors
abbrev pub list_at : List (Vec Item) → ℕ → List Item
list_at vs n = slice_index_or (map (λ v. v.items) vs) n []

-- the list with number n has the rows of level n + 1
pub record AreByLevel (depth : ℕ) (items : List Item) (grouped : Grouped) : Type 0 where
  pub levels : (n : ℕ) → n < depth
      → list_at grouped.levels.items n ≡ filter (stands_at (At (n + 1))) items
  pub cyclic : grouped.cyclic.items ≡ filter (stands_at Cyclic) items
  pub len : length grouped.levels.items ≡ depth
