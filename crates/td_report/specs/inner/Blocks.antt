-- What a report says of each level, over rows in memory.
use Rattle.std.specs.Prelude.{◌≡◌, ℕ, ◌+◌, ◌<◌, List, Some, count_by, filter, length, map}
use Rattle.std.specs.Prelude.{slice_get}
use Rattle.std.specs.List.{flat_map}
use Rattle.td_text.specs.Lines.{text_of}
use Rattle.td_waves.specs.declared.level.Level.{Level}
use Rattle.td_waves.specs.declared.level.Level.TheVariants.{At, Cyclic}
use Rattle.td_report.specs.declared.block.Block.{Block}
use Rattle.td_report.specs.declared.grouping.Grouped.{Grouped}
use Rattle.td_report.specs.inner.Grouped.{list_at}
use Rattle.td_report.specs.inner.ItemLines.{is_installed, seen}
use Rattle.td_report.specs.Report.{AffectedRow, levels, stands_at}
use Rattle.td_report.specs.Report as report

-- a level with its rows
pub record LevelRows : Type 0 where
  pub level : Level
  pub rows : List AffectedRow

-- the level and the rows of a block
abbrev pub told_of : Block → LevelRows
told_of b = record { level = b.level; rows = map seen b.items.now }

-- a level with the affected rows at it
abbrev pub told_at : List AffectedRow → Level → LevelRows
told_at rows level = record { level = level; rows = filter (stands_at level) rows }

-- the blocks of all levels and of what is cyclic
abbrev pub AreBlocks : ℕ → List AffectedRow → List Block → Type 0
AreBlocks depth rows bs = map told_of bs ≡ map (told_at rows) (levels depth)

-- the texts of blocks, one after the other, if these are the lines of a level with its rows
abbrev pub texts_of : (Level → List AffectedRow → List (List ℕ)) → List Block → List ℕ
texts_of lines bs = flat_map (λ b. text_of (lines b.level (map seen b.items.now))) bs

-- how many of the affected rows at a level are Installed
abbrev pub installed_at : List AffectedRow → Level → ℕ
installed_at rows level = count_by report.is_installed (filter (stands_at level) rows)

-- the counts of Installed rows by group:
-- level k has number k - 1, and what is cyclic is the last
pub record AreInstalledCounts (depth : ℕ) (rows : List AffectedRow) (counts : List ℕ)
    : Type 0 where
  pub of_level : (n : ℕ) → n < depth → slice_get counts n ≡ Some (installed_at rows (At (n + 1)))
  pub of_cyclic : slice_get counts depth ≡ Some (installed_at rows Cyclic)

-- the counts of Installed rows by group are those of rows in lists
pub record AreGroupedCounts (grouped : Grouped) (counts : List ℕ) : Type 0 where
  pub of_level : (n : ℕ) → n < length grouped.levels.items
      → slice_get counts n ≡ Some (count_by is_installed (list_at grouped.levels.items n))
  pub of_cyclic : slice_get counts (length grouped.levels.items)
      ≡ Some (count_by is_installed grouped.cyclic.items)
