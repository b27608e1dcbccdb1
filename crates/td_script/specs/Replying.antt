-- What is written of the answers of a book's calls. This project's own.
use Rattle.std.specs.Prelude.{◌≡◌, ℕ, Bool, true, false, List, [], ◌++◌, Option, Some, None, Result}
use Rattle.std.specs.Prelude.{Ok, Err, codes, decimal}
use Rattle.std.specs.List.{flat_map}
use Rattle.td_rows.specs.declared.key.Key.{Key}
use Rattle.td_rows.specs.declared.row.Row.{Row}
use Rattle.td_rows.specs.RowLine.{row_line}
use Rattle.td_rows.specs.StateWord.{state_word}
use Rattle.td_journal.specs.declared.entry.Marked.{Marked}
use Rattle.td_journal.specs.Entries.{entry_at}
use Rattle.td_journal.specs.JournalText.{entry_line}
use Rattle.td_book.specs.declared.arriving.ArriveRefusal.{ArriveRefusal}
use Rattle.td_book.specs.declared.arriving.ArriveRefusal.TheVariants as arrivals
use Rattle.td_book.specs.declared.commanding.CommandRefusal.{CommandRefusal}
use Rattle.td_book.specs.declared.commanding.CommandRefusal.TheVariants as commands
use Rattle.td_book.specs.declared.commanding.Taken.{Taken}
use Rattle.td_book.specs.declared.undoing.UndoRefusal.{UndoRefusal}
use Rattle.td_book.specs.declared.undoing.UndoRefusal.TheVariants as undos
use Rattle.td_script.specs.Replies.{ended, entry_made, refusal_line, skip_line, undo_name}

-- the text is appended, and the line is refused or not
pub record IsPut (text : List ℕ) (is : Bool) (before now : List ℕ) (refused : Bool) : Type 0 where
  pub text_is : now ≡ before ++ text
  pub refusal : refused ≡ is

-- the line of a key's row, or the refusal that it has none
abbrev pub IsRowPut : Key → Option Row → List ℕ → List ℕ → Bool → Type 0
IsRowPut k (Some row) before now refused =
    IsPut (ended (row_line (k, row))) false before now refused
IsRowPut k None before now refused =
    IsPut (refusal_line (codes "NoSuchRow")) true before now refused

-- the line of entry n, or the refusal that there is none
abbrev pub IsFoundPut : ℕ → Option Marked → List ℕ → List ℕ → Bool → Type 0
IsFoundPut n (Some m) before now refused = IsPut (ended (entry_line n m)) false before now refused
IsFoundPut n None before now refused =
    IsPut (refusal_line (codes "NoSuchEntry")) true before now refused

-- the line of the entry that a journal has under a number, and a text after it
abbrev pub IsEntryPut : List Marked → ℕ → List ℕ → List ℕ → List ℕ → Bool → Type 0
IsEntryPut ms n behind before now refused =
    (m : Marked) → entry_at ms n ≡ Some m
    → IsPut (entry_made n m.entry.keys ++ behind) false before now refused

-- what is written of an undo; nothing if memory ran out
abbrev pub IsUndoPut : ℕ → Result (Unit {0}) UndoRefusal → List ℕ → List ℕ → Bool → Type 0
IsUndoPut n (Ok u) before now refused =
    IsPut (ended (codes "undone " ++ decimal n)) false before now refused
IsUndoPut n (Err undos.NoMemory) before now refused = ⊥
IsUndoPut n (Err r) before now refused = IsPut (refusal_line (undo_name r)) true before now refused

-- what is written of an arrival that is refused
abbrev pub IsArrivalRefused : ArriveRefusal → List ℕ → List ℕ → Bool → Type 0
IsArrivalRefused arrivals.NoSuchRow before now refused =
    IsPut (refusal_line (codes "NoSuchRow")) true before now refused
IsArrivalRefused (arrivals.DoesNotApply s) before now refused =
    IsPut (refusal_line (codes "DoesNotApply " ++ state_word s)) true before now refused
IsArrivalRefused arrivals.NoMemory before now refused = ⊥

-- what is written of an arrival, if the journal is this afterwards
abbrev pub IsArrivalPut : List Marked → Result ℕ ArriveRefusal → List ℕ → List ℕ → Bool → Type 0
IsArrivalPut ms (Ok n) before now refused = IsEntryPut ms n [] before now refused
IsArrivalPut ms (Err r) before now refused = IsArrivalRefused r before now refused

-- what is written of a sweep
abbrev pub IsSweepPut : List Marked → Option ℕ → List ℕ → List ℕ → Bool → Type 0
IsSweepPut ms (Some n) before now refused = IsEntryPut ms n [] before now refused
IsSweepPut ms None before now refused =
    IsPut (ended (codes "nothing to sweep")) false before now refused

-- what is written of a command that is refused
abbrev pub IsCommandRefused : CommandRefusal → List ℕ → List ℕ → Bool → Type 0
IsCommandRefused (commands.NothingApplies skips) before now refused =
    IsPut (refusal_line (codes "NothingApplies") ++ flat_map skip_line skips) true before now
    refused
IsCommandRefused commands.NoMemory before now refused = ⊥

-- what is written of a command
abbrev pub IsCommandPut : List Marked → Result Taken CommandRefusal → List ℕ → List ℕ → Bool
    → Type 0
IsCommandPut ms (Ok t) before now refused =
    IsEntryPut ms t.number (flat_map skip_line t.skips) before now refused
IsCommandPut ms (Err r) before now refused = IsCommandRefused r before now refused
