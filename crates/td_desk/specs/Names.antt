-- What names say of a desk, and a name for no board, from which a call of a program picks another.
-- This project's own.
use Rattle.std.specs.Prelude.{ℕ, List, [], Option, None}
use Rattle.atomic_table.specs.Seated.{TableId}
use Rattle.td_rows.specs.Table.{Table}
use Rattle.td_supply.specs.Supply.{Stock}

-- what a desk is opened with, and no call changes: the rows, what the index offers, how many
-- builders its board has, and the text of the journal that is gone on with, if any
pub record Origin : Type 0 where
  pub rows : Table
  pub stock : Stock
  pub builders : ℕ
  pub journal : Option (List ℕ)

-- what no desk is opened with: no rows, no offers, no builders, and no journal
abbrev pub no_origin : Origin
no_origin =
    record {
      rows = [];
      stock = record { table = []; sources = []; offers = [] };
      builders = 0;
      journal = None;
    }

-- the name of no board's table: it has no words
abbrev pub no_table : TableId
no_table =
    record {
      words = 0;
      slots = 0;
      views_name = 0;
      atom = 0;
      block = 0;
      offset = 0;
      slot_names = [];
    }
