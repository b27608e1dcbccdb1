-- A watch as it is made for a book. This project's own.
use Rattle.std.specs.Prelude.{◌≡◌, ℕ, List, Some, None, Result, Ok, Err, length}
use Rattle.td_rows.specs.declared.key.Key.{Key}
use Rattle.td_core.specs.History.{rows_of}
use Rattle.td_book.specs.declared.watch.Watch.{Watch}
use Rattle.td_book.specs.declared.watching.WatchRefusal.{WatchRefusal}
use Rattle.td_book.specs.declared.watching.WatchRefusal.TheVariants.{NoMemory}
use Rattle.td_book.specs.Desk.{BookModel}
use Rattle.td_book.specs.Watching.{WatchView, is_there, watch_of}
use Rattle.td_book.specs.WatchCalls.{watch_stop}
use Rattle.td_book.specs.inner.Tallies.{AreTallied}

-- what contracts see of a watch
abbrev pub view_of : Watch → WatchView
view_of w = record { groups = length w.installed.items; of_rows = w.groups.items }

-- a watch of the rows as they are, or why there is none
abbrev pub IsOver : ℕ → List (Key × ℕ) → BookModel → Result Watch WatchRefusal → Type 0
IsOver groups given b (Ok watch) =
    (watch_stop (rows_of b.history) groups given ≡ None)
    × (view_of watch ≡ watch_of b.history.opening groups given)
    × AreTallied is_there watch.installed.items watch.groups.items (rows_of b.history)
IsOver groups given b (Err NoMemory) = Unit {0}
IsOver groups given b (Err refusal) = watch_stop (rows_of b.history) groups given ≡ Some refusal
