-- The answers to the lines of a script. This project's own.
use Rattle.std.specs.Prelude.{ℕ, ◌+◌, Bool, true, false, List, [], ◌∷◌, ◌++◌, Option, Some, None}
use Rattle.std.specs.Prelude.{Result, Ok, Err, length, filter, if◌then◌else◌, codes, decimal}
use Rattle.std.specs.List.{flat_map}
use Rattle.td_rows.specs.declared.key.Key.{Key}
use Rattle.td_rows.specs.declared.row.Row.{Row}
use Rattle.td_rows.specs.declared.kind.Kind.{Kind}
use Rattle.td_rows.specs.declared.kind.Kind.TheVariants as kinds
use Rattle.td_rows.specs.KeyText.{key_text}
use Rattle.td_rows.specs.Meaning.{applies}
use Rattle.td_rows.specs.RowLine.{row_line}
use Rattle.td_rows.specs.StateWord.{state_word}
use Rattle.td_rows.specs.Table.{Table, row_of}
use Rattle.td_journal.specs.declared.entry.Entry.{Entry}
use Rattle.td_journal.specs.Entries.{entry_at}
use Rattle.td_journal.specs.JournalText.{entry_line, journal_text, spaced_keys}
use Rattle.td_supply.specs.Supply.{Stock}
use Rattle.td_core.specs.Committing.{takes}
use Rattle.td_core.specs.History.{History, rows_of, with_entry, without_entry}
use Rattle.td_core.specs.Offers.{freed, supply_now}
use Rattle.td_wbread.specs.declared.fault.CommandFault.{CommandFault}
use Rattle.td_wbread.specs.declared.fault.CommandFault.TheVariants as faults
use Rattle.td_wbread.specs.Command.{CommandParts, command_at}
use Rattle.td_wbread.specs.FaultNames.{name_of}
use Rattle.td_wbread.specs.Kinds.{kind_of}
use Rattle.td_naming.specs.declared.skips.Skip.{Skip}
use Rattle.td_naming.specs.declared.skips.SkipReason.{SkipReason}
use Rattle.td_naming.specs.declared.skips.SkipReason.TheVariants as why
use Rattle.td_book.specs.declared.undoing.UndoRefusal.{UndoRefusal}
use Rattle.td_book.specs.declared.undoing.UndoRefusal.TheVariants as undos
use Rattle.td_naming.specs.Naming.{is_matched_at, named_in}
use Rattle.td_naming.specs.Skips.{skips_of}
use Rattle.td_book.specs.Undoing.{undo_stop}
use Rattle.td_script.specs.declared.request.Request.{Request}
use Rattle.td_script.specs.declared.request.Request.TheVariants.{Undo, Arrive, Sweep}
use Rattle.td_script.specs.declared.request.Request.TheVariants.{Row as AskedRow}
use Rattle.td_script.specs.declared.request.Request.TheVariants.{Entry as AskedEntry, Report}
use Rattle.td_script.specs.declared.request.Request.TheVariants.{Journal}
use Rattle.td_script.specs.declared.line.Said.{Said}
use Rattle.td_script.specs.declared.line.Said.TheVariants.{Skipped, Asked, Bad, Typed}
use Rattle.td_script.specs.Reading.{said_at}

-- what doesn't change over a script: what the index offers, the suites that a command may name, and
-- the report on rows, if there is a tracker
pub record Setting : Type 0 where
  pub stock : Stock
  pub suites : List (List ℕ)
  pub report : Option (Table → List ℕ)

-- an answer: its text, the history after it, and whether the line is refused
pub record Reply : Type 0 where
  pub text : List ℕ
  pub after : History
  pub refused : Bool

-- a line of its own
abbrev pub ended : List ℕ → List ℕ
ended line = line ++ 10 ∷ []

-- ---- 1. answers in general

-- nothing is changed, and this text is the answer
abbrev pub says : History → List ℕ → Reply
says h text = record { text = text; after = h; refused = false }

-- the line of a refusal
abbrev pub refusal_line : List ℕ → List ℕ
refusal_line name = ended (codes "refused: " ++ name)

-- nothing is changed, and the refusal named, with what follows it
abbrev pub refuses : History → List ℕ → List ℕ → Reply
refuses h name behind = record { text = refusal_line name ++ behind; after = h; refused = true }

-- the line of an entry that is made
abbrev pub entry_made : ℕ → List Key → List ℕ
entry_made n keys = ended (codes "entry " ++ (decimal n ++ (codes " takes" ++ spaced_keys keys)))

-- the entry is made, and the answer is its line with what follows it
abbrev pub enters : History → Entry → List ℕ → Reply
enters h e behind =
    record {
      text = entry_made (length h.journal + 1) e.keys ++ behind;
      after = with_entry h e;
      refused = false;
    }

-- ---- 2. undo

-- a refusal of an undo, with the number of the entry that blocks
abbrev pub undo_name : UndoRefusal → List ℕ
undo_name undos.NoSuchEntry = codes "NoSuchEntry"
undo_name undos.NotACommand = codes "NotACommand"
undo_name undos.AlreadyUndone = codes "AlreadyUndone"
undo_name undos.NoMemory = codes "NoMemory"
undo_name (undos.Blocked m) = codes "Blocked " ++ decimal m

-- entry n is undone, if nothing speaks against it
abbrev pub undoes : History → ℕ → Option UndoRefusal → Reply
undoes h n (Some r) = refuses h (undo_name r) []
undoes h n None =
    record {
      text = ended (codes "undone " ++ decimal n);
      after = without_entry h n;
      refused = false;
    }

-- ---- 3. arrivals and sweeps

-- the refusal of an arrival, with the row's state
abbrev pub state_refused : Row → List ℕ
state_refused row = codes "DoesNotApply " ++ state_word row.state

-- the build of a key has arrived, if its row has been built or uploaded
abbrev pub arrives : History → Key → Option Row → Reply
arrives h k None = refuses h (codes "NoSuchRow") []
arrives h k (Some row) =
    if applies kinds.Arrive row then enters h (record { kind = kinds.Arrive; keys = k ∷ [] }) []
    else refuses h (state_refused row) []

-- the answer to a sweep that frees these rows
abbrev pub sweeps : History → List Key → Reply
sweeps h [] = says h (ended (codes "nothing to sweep"))
sweeps h (k ∷ keys) = enters h (record { kind = kinds.Sweep; keys = k ∷ keys }) []

-- ---- 4. what is asked for

-- the row of a key
abbrev pub shows_row : History → Key → Option Row → Reply
shows_row h k None = refuses h (codes "NoSuchRow") []
shows_row h k (Some row) = says h (ended (row_line (k, row)))

-- the line of an entry
abbrev pub shows_entry : History → ℕ → Reply
shows_entry h n =
    elim (entry_at h.journal n) [
      | Some m ↦ says h (ended (entry_line n m))
      | None ↦ refuses h (codes "NoSuchEntry") []
    ]

-- the report of the rows, if there is a tracker
abbrev pub reports : History → Option (Table → List ℕ) → Reply
reports h None = refuses h (codes "NoTracker") []
reports h (Some report) = says h (report (rows_of h))

-- ---- 5. commands

-- why a row isn't taken: its version, or its state
abbrev pub reason_word : SkipReason → List ℕ
reason_word why.Version = codes "version"
reason_word (why.State state) = state_word state

-- the line of a row that a command names and doesn't take
abbrev pub skip_line : Skip → List ℕ
skip_line s = ended (codes "skipped " ++ (key_text s.key ++ 32 ∷ reason_word s.reason))

-- whether the version of a key's row matches
abbrev pub is_matched : Stock → History → CommandParts → Key → Bool
is_matched s h c = is_matched_at c (supply_now s h) (rows_of h)

-- the keys that a command takes: of the rows that it names those whose version matches and on which
-- its kind applies
abbrev pub taken : Stock → History → CommandParts → List Key
taken s h c = takes (rows_of h) (kind_of c) (filter (is_matched s h c) (named_in c (rows_of h)))

-- the rows that a command names and doesn't take
abbrev pub skipped : Stock → History → CommandParts → List Skip
skipped s h c = skips_of (is_matched s h c) (kind_of c) (named_in c (rows_of h)) (rows_of h)

-- an entry on these keys, if there are any
abbrev pub enters_on : History → Kind → List Key → List ℕ → Reply
enters_on h kind [] behind = refuses h (codes "NothingApplies") behind
enters_on h kind (k ∷ keys) behind = enters h (record { kind = kind; keys = k ∷ keys }) behind

-- the command is entered, and the rows that it names and doesn't take are listed
abbrev pub commands : Stock → History → CommandParts → Reply
commands s h c = enters_on h (kind_of c) (taken s h c) (flat_map skip_line (skipped s h c))

-- the name of a fault
abbrev pub fault_name : CommandFault → List ℕ
fault_name (faults.Wrong what place) = name_of what
fault_name faults.NoMemory = codes "NoMemory"

-- what a line says as a command, or its first fault
abbrev pub types : Stock → History → Result CommandParts CommandFault → Reply
types s h (Ok c) = commands s h c
types s h (Err fault) = refuses h (fault_name fault) []

-- ---- 6. a line

-- the answer to a request
abbrev pub asks : Setting → History → Request → Reply
asks s h (Undo n) = undoes h n (undo_stop h.journal n)
asks s h (Arrive k) = arrives h k (row_of (rows_of h) k)
asks s h Sweep = sweeps h (freed (supply_now s.stock h) (rows_of h))
asks s h (AskedRow k) = shows_row h k (row_of (rows_of h) k)
asks s h (AskedEntry n) = shows_entry h n
asks s h Report = reports h s.report
asks s h Journal = says h (journal_text h.journal)

-- the answer by what the line is
abbrev pub replies : Setting → History → List ℕ → Said → Reply
replies s h line Skipped = says h []
replies s h line (Asked r) = asks s h r
replies s h line Bad = refuses h (codes "BadLine") []
replies s h line Typed = types s.stock h (command_at s.stock.table s.suites line)

-- the answer to a line
abbrev pub answer : Setting → History → List ℕ → Reply
answer s h line = replies s h line (said_at line)
