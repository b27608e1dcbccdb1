-- What an arrival and a sweep do to a book. This project's own.
use Rattle.std.specs.Prelude.{◌≡◌, ◌≢◌, ℕ, ◌+◌, true, false, List, [], ◌∷◌, ◌++◌, Option, Some}
use Rattle.std.specs.Prelude.{None}
use Rattle.std.specs.Prelude.{Result, Ok, Err, length}
use Rattle.std.specs.declared.alloc.AllocError.{AllocError}
use Rattle.td_rows.specs.declared.key.Key.{Key}
use Rattle.td_rows.specs.declared.row.Row.{Row}
use Rattle.td_rows.specs.declared.kind.Kind.TheVariants.{Arrive, Sweep}
use Rattle.td_rows.specs.Meaning.{applies}
use Rattle.td_rows.specs.Table.{Table, row_of}
use Rattle.td_core.specs.History.{History, rows_of, with_entry}
use Rattle.td_core.specs.Offers.{freed, supply_now}
use Rattle.td_book.specs.Desk.{BookModel}
use Rattle.td_book.specs.Tries.{offers_for}
use Rattle.td_book.specs.declared.arriving.ArriveRefusal.{ArriveRefusal}
use Rattle.td_book.specs.declared.arriving.ArriveRefusal.TheVariants.{NoSuchRow, DoesNotApply}
use Rattle.td_book.specs.declared.arriving.ArriveRefusal.TheVariants.{NoMemory}

-- why an arrival makes no entry: the key has no row, or an arrival doesn't apply on it
abbrev pub ArrivalStop : Key → Table → ArriveRefusal → Type 0
ArrivalStop k t NoSuchRow = row_of t k ≡ None
ArrivalStop k t (DoesNotApply s) =
    (row : Row) × (row_of t k ≡ Some row) × (applies Arrive row ≡ false) × (s ≡ row.state)
ArrivalStop k t NoMemory = ⊥

-- why an arrival makes no entry in a book, by its rows
abbrev pub ArriveStop : Key → BookModel → ArriveRefusal → Type 0
ArriveStop k b r = ArrivalStop k (rows_of b.history) r

-- the entry on the key, if its row has been built or uploaded; else, or if memory for that entry
-- runs out, nothing
abbrev pub ArriveOutcome : Key → BookModel → BookModel → Result ℕ ArriveRefusal → Type 0
ArriveOutcome k old new (Ok n) =
    (row : Row) × (row_of (rows_of old.history) k ≡ Some row) × (applies Arrive row ≡ true)
    × (new ≡ record old
    { history = with_entry old.history (record { kind = Arrive; keys = k ∷ [] }) })
    × (n ≡ length old.history.journal + 1)
ArriveOutcome k old new (Err NoSuchRow) = (row_of (rows_of old.history) k ≡ None) × (new ≡ old)
ArriveOutcome k old new (Err (DoesNotApply s)) =
    (row : Row) × (row_of (rows_of old.history) k ≡ Some row) × (applies Arrive row ≡ false)
    × (s ≡ row.state) × (new ≡ old)
ArriveOutcome k old new (Err NoMemory) =
    (row : Row) × (row_of (rows_of old.history) k ≡ Some row) × (applies Arrive row ≡ true)
    × (new ≡ old)

-- the keys of the rows that the offers free now
abbrev pub freed_now : BookModel → List Key
freed_now b = freed (supply_now b.fixed.stock b.history) (rows_of b.history)

-- the history with a sweep's entry on the keys of the rows that the offers free now
abbrev pub swept_now : BookModel → History
swept_now b = with_entry b.history (record { kind = Sweep; keys = freed_now b })

-- a sweep makes the entry on all the keys that the offers free, if there are any, and then the
-- offers of those that need a build
abbrev pub SweepOutcome : BookModel → BookModel → Result (Option ℕ) AllocError → Type 0
SweepOutcome old new (Ok None) = (freed_now old ≡ []) × (new ≡ old)
SweepOutcome old new (Ok (Some n)) =
    (freed_now old ≢ [])
    × (new ≡ record old {
      history = swept_now old;
      tries = old.tries ++ offers_for (rows_of (swept_now old)) (freed_now old);
    })
    × (n ≡ length old.history.journal + 1)
SweepOutcome old new (Err e) = new ≡ old
