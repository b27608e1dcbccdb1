-- What holds over every list of steps. This project's own.
use Rattle.std.specs.Prelude.{◌≡◌, ◌↔◌, ◌≤◌, ℕ, ◌+◌, Bool, true, false, ◌==◌, ◌&&◌, ◌||◌, List, []}
use Rattle.std.specs.Prelude.{◌∷◌, ◌++◌, map, length, Option, Some, None, is_none, option_to_list}
use Rattle.td_rows.specs.declared.key.Key.{Key}
use Rattle.td_rows.specs.declared.row.Row.{Row}
use Rattle.td_rows.specs.declared.state.State.TheVariants.{NeedsBuild, Building}
use Rattle.td_rows.specs.declared.kind.Kind.{Kind}
use Rattle.td_rows.specs.Keys.{ascending, names}
use Rattle.td_rows.specs.Table.{Table, keys_of, row_of}
use Rattle.td_supply.specs.Supply.{Stock, arrived}
use Rattle.td_journal.specs.declared.entry.Entry.{Entry}
use Rattle.td_journal.specs.declared.entry.Marked.{Marked}
use Rattle.td_journal.specs.declared.entry.Mark.TheVariants.{Standing, Undone as Dropped}
use Rattle.td_journal.specs.Entries.{is_command, entry_at}
use Rattle.td_journal.specs.IsKeys.{IsKeys}
use Rattle.td_journal.specs.Touching.{blocker}
use Rattle.td_core.specs.declared.step.Phase.{Phase}
use Rattle.td_core.specs.declared.step.Phase.TheVariants.{Held, Noted, Done}
use Rattle.td_core.specs.declared.step.Step.{Step}
use Rattle.td_core.specs.declared.step.Step.TheVariants.{Commit, Undo, Arrive}
use Rattle.td_core.specs.declared.step.Refusal.TheVariants.{Blocked}
use Rattle.td_core.specs.declared.step.Answer.TheVariants.{Undone, Refused}
use Rattle.td_core.specs.History.{rows_of}
use Rattle.td_core.specs.Phases.{is_pinned, NoneBuilt}
use Rattle.td_core.specs.Worlds.{WorldView, phase_of, world_of, InHand, IsWorld}
use Rattle.td_core.specs.Refusals.{first_unpinned}
use Rattle.td_core.specs.Offers.{number_in, is_freed}
use Rattle.td_core.specs.Steps.{refusal, answer_to, after, after_all, supply_of, swept_now}

-- from an opening in which no row is built, every list of steps leads to a sound world
abbrev pub EveryWorld : Type 0
EveryWorld = (t : Table) (s : Stock) (builders : ℕ) (steps : List Step)
    → ascending (keys_of t) ≡ true → NoneBuilt t → IsWorld (after_all (world_of t s builders) steps)

-- an offered or held row needs a build
abbrev pub OfferedRowsWait : Type 0
OfferedRowsWait = (w : WorldView) (k : Key) (p : Phase) (row : Row) → IsWorld w
    → phase_of w k ≡ Some p → row_of (rows_of w.history) k ≡ Some row → is_pinned p ≡ false
    → row.state ≡ NeedsBuild

-- whether the journal knows that the builder claimed the row, and not yet how its build ended
abbrev pub is_known_by : ℕ → Phase → Bool
is_known_by b (Noted c) = b == c
is_known_by b (Done c o) = b == c
is_known_by b p = false

-- a row is built by a builder if and only if the journal knows that the builder claimed it, and not
-- yet how its build ended
abbrev pub BuiltExactly : Type 0
BuiltExactly = (w : WorldView) (k : Key) (p : Phase) (row : Row) (b : ℕ) → IsWorld w
    → phase_of w k ≡ Some p → row_of (rows_of w.history) k ≡ Some row
    → (row.state ≡ Building b) ↔ (is_known_by b p ≡ true)

-- who has a row has it in hand
abbrev pub HandsFollow : Type 0
HandsFollow = (w : WorldView) (k : Key) (p : Phase) → IsWorld w → phase_of w k ≡ Some p
    → InHand w.hands k p

-- the builder who has a row in the phase
abbrev pub builder_in : Phase → Option ℕ
builder_in (Held b) = Some b
builder_in (Noted b) = Some b
builder_in (Done b o) = Some b
builder_in p = None

-- the builder who has a row is one of the world's, which have the numbers from 1 on
abbrev pub BuildersAreThere : Type 0
BuildersAreThere = (w : WorldView) (k : Key) (p : Phase) (b : ℕ) → IsWorld w → phase_of w k ≡ Some p
    → builder_in p ≡ Some b → (1 ≤ b) × (b ≤ length w.hands)

-- the keys of each entry rise, and there is one at least
abbrev pub EntriesRise : Type 0
EntriesRise = (w : WorldView) (n : ℕ) (m : Marked) → IsWorld w
    → entry_at w.history.journal n ≡ Some m → IsKeys m.entry.keys

-- a command followed at once by its undo: the undo is accepted, and each row is as it was
abbrev pub UndoneAtOnce : Type 0
UndoneAtOnce = (w : WorldView) (kind : Kind) (keys : List Key)
    → refusal w (Commit kind keys) ≡ None →
    (answer_to (after w (Commit kind keys)) (Undo (length w.history.journal + 1))
    ≡ Undone (length w.history.journal + 1))
    × (rows_of (after (after w (Commit kind keys)) (Undo (length w.history.journal + 1))).history
    ≡ rows_of w.history)

-- entry n stands and is a command
pub record StandingCommand (w : WorldView) (n : ℕ) (m : Marked) : Type 0 where
  pub there : entry_at w.history.journal n ≡ Some m
  pub stands : m.mark ≡ Standing
  pub command : is_command m.entry.kind ≡ true

-- the undo of a standing command is refused for an entry if and only if that is its blocker
abbrev pub BlockedExactly : Type 0
BlockedExactly = (w : WorldView) (n : ℕ) (m : Marked) (b : ℕ) → StandingCommand w n m
    → (answer_to w (Undo n) ≡ Refused (Blocked b)) ↔ (blocker w.history.journal n ≡ Some b)

-- the undo of a standing command without a blocker is accepted, if the rows are pinned of which the
-- command has the state
abbrev pub UndoneElse : Type 0
UndoneElse = (w : WorldView) (n : ℕ) (m : Marked) → StandingCommand w n m
    → blocker w.history.journal n ≡ None → first_unpinned w m.entry.kind m.entry.keys ≡ None
    → answer_to w (Undo n) ≡ Undone n

-- the entries of a world, without their marks
abbrev pub entries_of : WorldView → List Entry
entries_of w = map (λ (m : Marked). m.entry) w.history.journal

-- whether a step is an undo of entry n that is accepted
abbrev pub undoes : WorldView → Step → ℕ → Bool
undoes w (Undo i) n = i == n && is_none (refusal w (Undo i))
undoes w s n = false

-- entry n, which stands and is a command, is marked as undone
pub record IsUndone (w v : WorldView) (n : ℕ) (m : Marked) : Type 0 where
  pub stood : m.mark ≡ Standing
  pub command : is_command m.entry.kind ≡ true
  pub undone : entry_at v.history.journal n ≡ Some (record m { mark = Dropped })

-- a step leaves the opening rows and the entries and appends one entry at most; the marks stay,
-- except that of the entry that it undoes
pub record Stays (w : WorldView) (s : Step) (v : WorldView) : Type 0 where
  pub opening : v.history.opening ≡ w.history.opening
  pub added : Option Entry
  pub entries : entries_of v ≡ entries_of w ++ option_to_list added
  pub marks : (n : ℕ) (m : Marked) → entry_at w.history.journal n ≡ Some m → undoes w s n ≡ false
      → entry_at v.history.journal n ≡ Some m
  pub undone : (n : ℕ) (m : Marked) → entry_at w.history.journal n ≡ Some m → undoes w s n ≡ true
      → IsUndone w v n m

-- every step leaves the opening rows, the entries and the marks as `Stays` says
abbrev pub EntriesStay : Type 0
EntriesStay = (w : WorldView) (s : Step) → Stays w s (after w s)

-- whether one of the steps is an undo of entry n that is accepted
abbrev pub undoes_among : WorldView → List Step → ℕ → Bool
undoes_among w [] n = false
undoes_among w (s ∷ steps) n = undoes w s n || undoes_among (after w s) steps n

-- a list of steps leaves the opening rows and the entries and appends no more entries than it has
-- steps; the marks stay, except those of the entries that it undoes
pub record StaysAmong (w : WorldView) (steps : List Step) (v : WorldView) : Type 0 where
  pub opening : v.history.opening ≡ w.history.opening
  pub added : List Entry
  pub few : length added ≤ length steps
  pub entries : entries_of v ≡ entries_of w ++ added
  pub marks : (n : ℕ) (m : Marked) → entry_at w.history.journal n ≡ Some m
      → undoes_among w steps n ≡ false → entry_at v.history.journal n ≡ Some m
  pub undone : (n : ℕ) (m : Marked) → entry_at w.history.journal n ≡ Some m
      → undoes_among w steps n ≡ true → IsUndone w v n m

-- every list of steps leaves the opening rows, the entries and the marks as `StaysAmong` says
abbrev pub EntriesStayAmong : Type 0
EntriesStayAmong = (w : WorldView) (steps : List Step) → StaysAmong w steps (after_all w steps)

-- whether a step is an arrival
abbrev pub is_arrive : Step → Bool
is_arrive (Arrive k) = true
is_arrive s = false

-- no other step changes what is on offer, an undo neither
abbrev pub OffersStay : Type 0
OffersStay = (w : WorldView) (s : Step) → is_arrive s ≡ false → supply_of (after w s) ≡ supply_of w

-- an arrival offers the builds of its key with the number that the key's row has
abbrev pub ArrivalsAreOffered : Type 0
ArrivalsAreOffered = (w : WorldView) (k : Key) → refusal w (Arrive k) ≡ None → supply_of
    (after w (Arrive k)) ≡ arrived (supply_of w) k.source k.arch (number_in (rows_of w.history) k)

-- a sweep frees a row if and only if it waits for what the offers meet, and they meet what its
-- rebuild needs in addition
abbrev pub SweptExactly : Type 0
SweptExactly = (w : WorldView) (k : Key) (row : Row) → IsWorld w → row_of (rows_of w.history) k
    ≡ Some row → (names (swept_now w) k ≡ true) ↔ (is_freed (supply_of w) (k, row) ≡ true)
