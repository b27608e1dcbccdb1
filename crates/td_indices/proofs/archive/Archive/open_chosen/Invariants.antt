-- What the loop of `Archive::open_chosen` keeps.
use Rattle.std.proofs.Common.{◌≡◌, ◌+◌, ◌≤◌, drop, length, option_map, take}
use Rattle.td_rows.specs.declared.key.Key.{Key}
use Rattle.td_rows.specs.Table.{row_of}
use Rattle.td_indices.specs.Choosing.{chosen}
use Rattle.td_indices.specs.Rows.{row_count}
use Rattle.td_indices.proofs.OpeningRows.{row_so_far}
use Rattle.td_indices.proofs.archive.Archive.open_chosen.Given as goal

-- the rows of the chosen sources so far, and how many are left
abbrev pub invariant-loop-number : goal.invariant-loop-number
invariant-loop-number l = record {
  opened : (k : Key) → row_of l.rows.entries k
      ≡ row_so_far l.self (chosen (option_map (λ x. x.now) l.flags) (take l.number l.self.sources)) k;
  few : length l.rows.entries + row_count l.self.table (drop l.number l.self.sources) ≤ 1048576;
}
