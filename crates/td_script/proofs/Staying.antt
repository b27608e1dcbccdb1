-- The rows with which a history opens stay over each answer.
use Rattle.std.proofs.Common.{◌≡◌, ℕ, true, false, List, [], ◌∷◌, Option, Some, None, Result, Ok}
use Rattle.std.proofs.Common.{Err, if◌then◌else◌, refl}
use Rattle.std.specs.Prelude.{codes}
use Rattle.std.specs.List.{flat_map}
use Rattle.td_rows.specs.declared.key.Key.{Key}
use Rattle.td_rows.specs.declared.kind.Kind.{Kind}
use Rattle.td_rows.specs.declared.kind.Kind.TheVariants as kinds
use Rattle.td_rows.specs.declared.row.Row.{Row}
use Rattle.td_rows.specs.Meaning.{applies}
use Rattle.td_rows.specs.Table.{Table, row_of}
use Rattle.td_journal.specs.declared.entry.Marked.{Marked}
use Rattle.td_journal.specs.Entries.{entry_at}
use Rattle.td_journal.specs.JournalText.{entry_line}
use Rattle.td_core.specs.History.{History, rows_of}
use Rattle.td_core.specs.Offers.{freed, supply_now}
use Rattle.td_supply.specs.Supply.{Stock}
use Rattle.td_wbread.specs.Command.{CommandParts, command_at}
use Rattle.td_wbread.specs.Kinds.{kind_of}
use Rattle.td_wbread.specs.declared.fault.CommandFault.{CommandFault}
use Rattle.td_book.specs.declared.undoing.UndoRefusal.{UndoRefusal}
use Rattle.td_book.specs.Undoing.{undo_stop}
use Rattle.td_script.specs.declared.request.Request.{Request}
use Rattle.td_script.specs.declared.request.Request.TheVariants as asked
use Rattle.td_script.specs.declared.line.Said.{Said}
use Rattle.td_script.specs.declared.line.Said.TheVariants.{Skipped, Asked, Bad, Typed}
use Rattle.td_script.specs.Reading.{said_at}
use Rattle.td_script.specs.Replies.{Reply, Setting, answer, arrives, asks, ended, enters, enters_on}
use Rattle.td_script.specs.Replies.{refuses, replies, reports, says, shows_entry, shows_row}
use Rattle.td_script.specs.Replies.{skip_line, skipped, state_refused, sweeps, taken, types, undoes}

-- a reply's history opens with the rows with which this history does
abbrev Opens : History → Reply → Type 0
Opens h r = r.after.opening ≡ h.opening

undo-opens : (h : History) (n : ℕ) (stop : Option UndoRefusal) → Opens h (undoes h n stop)
undo-opens h n None = refl
undo-opens h n (Some r) = refl

arrival-opens : (h : History) (k : Key) (o : Option Row) → Opens h (arrives h k o)
arrival-opens h k None = refl
arrival-opens h k (Some row) =
    elim (applies kinds.Arrive row) as (λ b.
    Opens h (if b then enters h (record { kind = kinds.Arrive; keys = k ∷ [] }) []
    else refuses h (state_refused row) [])) [ true ↦ refl | false ↦ refl ]

sweep-opens : (h : History) (keys : List Key) → Opens h (sweeps h keys)
sweep-opens h [] = refl
sweep-opens h (k ∷ keys) = refl

row-opens : (h : History) (k : Key) (o : Option Row) → Opens h (shows_row h k o)
row-opens h k None = refl
row-opens h k (Some row) = refl

entry-opens : (h : History) (n : ℕ) → Opens h (shows_entry h n)
entry-opens h n = by (entry_at h.journal n)
  where
    by : (o : Option Marked)
        → Opens h (elim o [
          | Some m ↦ says h (ended (entry_line n m))
          | None ↦ refuses h (codes "NoSuchEntry") []
        ])
    by None = refl
    by (Some m) = refl

report-opens : (h : History) (o : Option (Table → List ℕ)) → Opens h (reports h o)
report-opens h None = refl
report-opens h (Some report) = refl

entered-opens : (h : History) (kind : Kind) (keys : List Key) (behind : List ℕ)
    → Opens h (enters_on h kind keys behind)
entered-opens h kind [] behind = refl
entered-opens h kind (k ∷ keys) behind = refl

typed-opens : (s : Stock) (h : History) (r : Result CommandParts CommandFault)
    → Opens h (types s h r)
typed-opens s h (Ok c) =
    entered-opens h (kind_of c) (taken s h c) (flat_map skip_line (skipped s h c))
typed-opens s h (Err fault) = refl

asked-opens : (s : Setting) (h : History) (r : Request) → Opens h (asks s h r)
asked-opens s h (asked.Undo n) = undo-opens h n (undo_stop h.journal n)
asked-opens s h (asked.Arrive k) = arrival-opens h k (row_of (rows_of h) k)
asked-opens s h asked.Sweep = sweep-opens h (freed (supply_now s.stock h) (rows_of h))
asked-opens s h (asked.Row k) = row-opens h k (row_of (rows_of h) k)
asked-opens s h (asked.Entry n) = entry-opens h n
asked-opens s h asked.Report = report-opens h s.report
asked-opens s h asked.Journal = refl

said-opens : (s : Setting) (h : History) (line : List ℕ) (said : Said)
    → Opens h (replies s h line said)
said-opens s h line Skipped = refl
said-opens s h line (Asked r) = asked-opens s h r
said-opens s h line Bad = refl
said-opens s h line Typed = typed-opens s.stock h (command_at s.stock.table s.suites line)

pub opening-stays : (s : Setting) (h : History) (line : List ℕ)
    → (answer s h line).after.opening ≡ h.opening
opening-stays s h line = said-opens s h line (said_at line)
