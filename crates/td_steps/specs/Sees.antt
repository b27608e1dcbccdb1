-- What the desk and the book know of a world, as a plain value, and when that is so. This project's
-- own.
use Rattle.std.specs.Prelude.{◌≡◌, ℕ, Bool, true, false, List, [], length, slice_get, set, Option}
use Rattle.std.specs.Prelude.{Some}
use Rattle.td_board.specs.declared.views.RowView.{RowView}
use Rattle.td_board.specs.declared.views.RowView.TheVariants.{In, Out, Seen, Known}
use Rattle.td_rows.specs.declared.key.Key.{Key}
use Rattle.td_rows.specs.declared.kind.Kind.{Kind}
use Rattle.td_change.specs.Saved.{number_of}
use Rattle.td_supply.specs.Supply.{Stock}
use Rattle.td_core.specs.declared.step.Phase.{Phase}
use Rattle.td_core.specs.declared.step.Phase.TheVariants.{Closed, Open, Held, Noted, Done}
use Rattle.td_core.specs.History.{History, rows_of, with_entry}
use Rattle.td_core.specs.Worlds.{WorldView, IsWorld}
use Rattle.td_book.specs.Desk.{BookModel}
use Rattle.td_book.specs.Seen.{seen_off}

-- the history, what the index offers, what the desk's seat knows of each row in order, and how many
-- builders there are
pub record Desk : Type 0 where
  pub history : History
  pub stock : Stock
  pub view : List RowView
  pub builders : ℕ

-- the desk of a book at rest: the seat knows what follows from its rows
abbrev pub resting : BookModel → Desk
resting b =
    record {
      history = b.history;
      stock = b.fixed.stock;
      view = seen_off [] (rows_of b.history);
      builders = b.fixed.builders;
    }

-- what the seat knows of a key's row, if the key has one
abbrev pub view_of : Desk → Key → Option RowView
view_of d k = slice_get d.view (number_of d.history.opening k)

-- the desk with this as what its seat knows of the key's row
abbrev pub with_view : Desk → Key → RowView → Desk
with_view d k v = record d { view = set d.view (number_of d.history.opening k) v }

-- the desk with one more entry in its journal
abbrev pub entering : Desk → Kind → List Key → Desk
entering d kind keys =
    record d { history = with_entry d.history (record { kind = kind; keys = keys }) }

-- In goes with Closed, Out with Open or Held, Seen by b with Held by b, Known by b with Noted or
-- Done by b: whether a row that is out was claimed meanwhile, or a known build has ended, only the
-- board knows
abbrev pub Fits : RowView → Phase → Type 0
Fits In Closed = Unit {0}
Fits Out Open = Unit {0}
Fits Out (Held b) = Unit {0}
Fits (Seen b) (Held c) = b ≡ c
Fits (Known b) (Noted c) = b ≡ c
Fits (Known b) (Done c o) = b ≡ c
Fits v p = ⊥

-- row by row
abbrev pub FitAll : List RowView → List Phase → Type 0
FitAll vs ps =
    (i : ℕ) (v : RowView) (p : Phase) → slice_get vs i ≡ Some v → slice_get ps i ≡ Some p → Fits v p

-- the desk sees the world: the same history and stock, as many builders, what its seat knows of
-- each row fits the row's phase, and the world is sound
pub record Sees (w : WorldView) (d : Desk) : Type 0 where
  pub sound : IsWorld w
  pub history : w.history ≡ d.history
  pub supply : w.supply ≡ d.stock
  pub builders : length w.hands ≡ d.builders
  pub sized : length d.view ≡ length w.phases
  pub fits : FitAll d.view w.phases

-- whether the desk knows that a row is neither offered nor claimed without the journal's knowing
abbrev pub is_off : Option RowView → Bool
is_off (Some Out) = false
is_off (Some (Seen b)) = false
is_off v = true
