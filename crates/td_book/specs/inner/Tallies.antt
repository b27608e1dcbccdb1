-- Counts that are kept up by one row after another. This project's own.
use Rattle.std.specs.Prelude.{◌≡◌, ℕ, ◌+◌, ◌<◌, ◌≤◌, ◌^◌, Bool, true, false, not, List, Option}
use Rattle.std.specs.Prelude.{Some, None, if◌then◌else◌, length, slice_get, slice_index}
use Rattle.td_rows.specs.declared.key.Key.{Key}
use Rattle.td_rows.specs.declared.row.Row.{Row}
use Rattle.td_rows.specs.declared.kind.Kind.{Kind}
use Rattle.td_rows.specs.declared.kind.Kind.TheVariants.{Arrive, Nmu}
use Rattle.td_rows.specs.Keys.{names, ascending}
use Rattle.td_rows.specs.States.{is_installed}
use Rattle.td_rows.specs.Table.{Table, row_of, keys_of, AppliesOn}
use Rattle.td_journal.specs.declared.entry.Entry.{Entry}
use Rattle.td_journal.specs.declared.entry.Marked.{Marked}
use Rattle.td_journal.specs.Entries.{entry_at}
use Rattle.td_core.specs.History.{History, rows_of, without_entry, IsAppended}
use Rattle.td_core.specs.Inverse.{Redone}
use Rattle.td_book.specs.Watching.{tally, is_there}

-- the group of the row with a number
abbrev pub group_at : List (Option ℕ) → ℕ → Option ℕ
group_at ws i = elim (slice_get ws i) [ Some w ↦ w | None ↦ None ]

-- the counts, by group, are of the rows that pass the test
pub record AreTallied (test : Key × Row → Bool) (counts : List ℕ) (ws : List (Option ℕ))
    (t : Table) : Type 0 where
  pub each : (g : ℕ) → g < length counts → slice_index counts g ≡ tally test g ws t

-- ---- rows that lose or gain Installed, key by key

-- each of the keys has a row, and its state is Installed, or isn't
pub record AllAre (is : Bool) (keys : List Key) (t : Table) : Type 0 where
  pub each : (k : Key) → names keys k ≡ true
      → (row : Row) × (row_of t k ≡ Some row) × (is_installed row.state ≡ is)

-- whether the row was Installed before those that the keys name came to be so, or to be so no more
abbrev pub was_there : Bool → List Key → Key × Row → Bool
was_there there keys p = if names keys p.0 then not there else is_there p

-- the rows of the keys came to be Installed, or to be so no more: the counts are of the rows before
pub record AreChanged (there : Bool) (keys : List Key) (counts : List ℕ) (ws : List (Option ℕ))
    (t : Table) : Type 0 where
  pub all : AllAre there keys t
  pub tallied : AreTallied (was_there there keys) counts ws t

-- a count before and after some rows more are Installed, or less
abbrev pub IsStep : Bool → ℕ → ℕ → ℕ → Type 0
IsStep true rows old new = new ≡ rows + old
IsStep false rows old new = old ≡ rows + new

-- one more fits, or one less
abbrev pub MayStep : Bool → ℕ → Type 0
MayStep true count = count + 1 < 2 ^ 64
MayStep false count = 1 ≤ count

-- whether an entry of the kind makes its rows Installed, or takes that from them; none where it
-- leaves it
abbrev pub made_installed : Kind → Option Bool
made_installed (Nmu n e m) = Some false
made_installed Arrive = Some true
made_installed kind = None

-- entry n was made, of the rows before which the counts are
pub record IsEntered (n : ℕ) (now : History) (counts : List ℕ) (ws : List (Option ℕ)) : Type 0 where
  pub before : History
  pub entry : Entry
  pub appended : IsAppended before entry now n
  pub applies : AppliesOn (rows_of before) entry.kind entry.keys
  pub rising : ascending (keys_of before.opening) ≡ true
  pub tallied : AreTallied is_there counts ws (rows_of before)

-- entry n was undone, of the rows with which the counts are
pub record IsTakenBack (n : ℕ) (now : History) (counts : List ℕ)
    (ws : List (Option ℕ)) : Type 0 where
  pub before : History
  pub marked : Marked
  pub there : entry_at before.journal n ≡ Some marked
  pub is : now ≡ without_entry before n
  pub redone : Redone before n marked
  pub rising : ascending (keys_of before.opening) ≡ true
  pub tallied : AreTallied is_there counts ws (rows_of before)
