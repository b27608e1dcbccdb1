-- What the call `watch` does to a book. This project's own.
use Rattle.std.specs.Prelude.{◌≡◌, ℕ, List, [], ◌∷◌, ◌++◌, Option, Some, None, Result, Ok, Err}
use Rattle.std.specs.Prelude.{is_some, nat_lt, if◌then◌else◌}
use Rattle.std.specs.Option.{option_map, option_or}
use Rattle.td_rows.specs.declared.key.Key.{Key}
use Rattle.td_rows.specs.Keys.{names}
use Rattle.td_rows.specs.Table.{Table, row_of}
use Rattle.td_core.specs.History.{rows_of}
use Rattle.td_book.specs.declared.watching.WatchRefusal.{WatchRefusal}
use Rattle.td_book.specs.declared.watching.WatchRefusal.TheVariants.{NoSuchRow, Twice, BadGroup}
use Rattle.td_book.specs.declared.watching.WatchRefusal.TheVariants.{NoMemory}
use Rattle.td_book.specs.Desk.{BookModel}
use Rattle.td_book.specs.Watching.{WatchView, watch_of}

-- the first key that has no row
abbrev pub unknown_in : Table → List (Key × ℕ) → Option Key
unknown_in t [] = None
unknown_in t (p ∷ ps) = if is_some (row_of t p.0) then unknown_in t ps else Some p.0

-- the first key that is among those before it
abbrev pub twice_in : List Key → List (Key × ℕ) → Option Key
twice_in before [] = None
twice_in before (p ∷ ps) = if names before p.0 then Some p.0 else twice_in (before ++ p.0 ∷ []) ps

-- the first key whose group isn't below their number
abbrev pub outside_in : ℕ → List (Key × ℕ) → Option Key
outside_in groups [] = None
outside_in groups (p ∷ ps) = if nat_lt p.1 groups then outside_in groups ps else Some p.0

-- why rows aren't watched: a key has no row; or else one stands there twice; or else one has no
-- such group
abbrev pub watch_stop : Table → ℕ → List (Key × ℕ) → Option WatchRefusal
watch_stop t groups given =
    option_or (option_map NoSuchRow (unknown_in t given))
    (option_or (option_map Twice (twice_in [] given))
    (option_map BadGroup (outside_in groups given)))

-- a book with these rows watched, and else as it was
abbrev pub with_watch : BookModel → WatchView → BookModel
with_watch b w = record b { fixed = record b.fixed { watch = w } }

-- the rows are watched, and none that were before; or all stays
abbrev pub WatchOutcome : ℕ → List (Key × ℕ) → BookModel → BookModel
    → Result (Unit {0}) WatchRefusal → Type 0
WatchOutcome groups given old new (Ok u) =
    (watch_stop (rows_of old.history) groups given ≡ None)
    × (new ≡ with_watch old (watch_of old.history.opening groups given))
WatchOutcome groups given old new (Err NoMemory) = new ≡ old
WatchOutcome groups given old new (Err refusal) =
    (watch_stop (rows_of old.history) groups given ≡ Some refusal) × (new ≡ old)
