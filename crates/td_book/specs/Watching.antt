-- Rows that are watched under groups, and how many of a group are Installed. This project's own.
use Rattle.std.specs.Prelude.{ℕ, ◌+◌, ◌==◌, Bool, false, ◌&&◌, nat_lt, List, [], ◌∷◌, Option, Some}
use Rattle.std.specs.Prelude.{None, map, if◌then◌else◌}
use Rattle.td_rows.specs.declared.key.Key.{Key}
use Rattle.td_rows.specs.declared.row.Row.{Row}
use Rattle.td_rows.specs.Keys.{same_key}
use Rattle.td_rows.specs.States.{is_installed}
use Rattle.td_rows.specs.Table.{Table, keys_of}
use Rattle.td_supply.specs.Supply.{Stock}
use Rattle.td_core.specs.Books.{BooksView}
use Rattle.td_core.specs.History.{History}
use Rattle.td_core.specs.Keeps.{Room}

-- how many groups there are; and of each row, by its number, the group under which it is watched,
-- none where it isn't
pub record WatchView : Type 0 where
  pub groups : ℕ
  pub of_rows : List (Option ℕ)

-- no row is watched, and there is no group
abbrev pub no_watch : WatchView
no_watch = record { groups = 0; of_rows = [] }

-- what is kept, with the rows that are watched: the counts follow from both
pub record WatchedView : Type 0 where
  pub history : History
  pub stock : Stock
  pub room : Room
  pub watch : WatchView

-- what is kept, whatever is watched
abbrev pub kept_in : WatchedView → BooksView
kept_in w = record { history = w.history; stock = w.stock; room = w.room }

-- what is kept, of which no row is watched
abbrev pub unwatched : BooksView → WatchedView
unwatched b =
    record {
      history = b.history;
      stock = b.stock;
      room = b.room;
      watch = no_watch;
    }

-- ---- 1. the counts

-- whether a row that is watched so is of the group
abbrev pub is_of : Option ℕ → ℕ → Bool
is_of None group = false
is_of (Some g) group = g == group

-- how many rows are of the group and pass the test
abbrev pub tally : (Key × Row → Bool) → ℕ → List (Option ℕ) → Table → ℕ
tally test group [] t = 0
tally test group (w ∷ ws) [] = 0
tally test group (w ∷ ws) (p ∷ t) =
    (if is_of w group && test p then 1 else 0) + tally test group ws t

-- whether a row is Installed
abbrev pub is_there : Key × Row → Bool
is_there p = is_installed p.1.state

-- the number of watched rows of the group that are Installed, none for no such group
abbrev pub installed_in : WatchView → Table → ℕ → Option ℕ
installed_in w t group =
    if nat_lt group w.groups then Some (tally is_there group w.of_rows t) else None

-- ---- 2. what is watched

-- the group that is given with a key
abbrev pub group_in : List (Key × ℕ) → Key → Option ℕ
group_in [] k = None
group_in (p ∷ ps) k = if same_key k p.0 then Some p.1 else group_in ps k

-- the watch of these keys under their groups, over rows with these keys
abbrev pub watch_of : Table → ℕ → List (Key × ℕ) → WatchView
watch_of t groups given = record { groups = groups; of_rows = map (group_in given) (keys_of t) }
