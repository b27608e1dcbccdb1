-- A world: a history, what the index offers, a phase for each row and a hand for each builder.
-- This project's own.
use Rattle.std.specs.Prelude.{◌≡◌, ℕ, ◌-◌, ◌==◌, true, List, length, replicate, Option, Some, None}
use Rattle.std.specs.Prelude.{slice_get, set, if◌then◌else◌}
use Rattle.td_rows.specs.declared.key.Key.{Key}
use Rattle.td_rows.specs.declared.row.Row.{Row}
use Rattle.td_rows.specs.declared.kind.Kind.{Kind}
use Rattle.td_rows.specs.Keys.{ascending}
use Rattle.td_rows.specs.Table.{Table, keys_of, row_of}
use Rattle.td_change.specs.Saved.{number_of}
use Rattle.td_journal.specs.Entries.{standing}
use Rattle.td_journal.specs.Journaled.{EachHasKeys}
use Rattle.td_journal.specs.Replay.{Lawful}
use Rattle.td_core.specs.declared.step.Phase.{Phase}
use Rattle.td_core.specs.declared.step.Phase.TheVariants.{Closed, Open, Held, Noted, Done}
use Rattle.td_core.specs.declared.step.Hand.{Hand}
use Rattle.td_core.specs.declared.step.Hand.TheVariants.{Free, Holding, Finished}
use Rattle.td_core.specs.History.{History, rows_of, opened, with_entry}
use Rattle.td_core.specs.Phases.{Suits}
use Rattle.td_supply.specs.Supply.{Stock}

-- a world: its rows are a function of the history, its offers one of the stock and the history; the
-- phases are those of the rows in order, the hands those of builders 1, 2 and so on
pub record WorldView : Type 0 where
  pub history : History
  pub supply : Stock
  pub phases : List Phase
  pub hands : List Hand

-- the phase of a key's row, if the key has one
abbrev pub phase_of : WorldView → Key → Option Phase
phase_of w k = slice_get w.phases (number_of w.history.opening k)

-- the world, in which the key's row has the phase
abbrev pub with_phase : WorldView → Key → Phase → WorldView
with_phase w k p = record w { phases = set w.phases (number_of w.history.opening k) p }

-- the hand of a builder among these hands, if there is one with the number
abbrev pub hand_in : List Hand → ℕ → Option Hand
hand_in hands b = if b == 0 then None else slice_get hands (b - 1)

-- the row that a hand holds, if it is there and holds one
abbrev pub held_in : Option Hand → Option Key
held_in (Some (Holding k)) = Some k
held_in h = None

-- the hand of a builder
abbrev pub hand_of : WorldView → ℕ → Option Hand
hand_of w b = hand_in w.hands b

-- the world, in which the builder has that in hand
abbrev pub with_hand : WorldView → ℕ → Hand → WorldView
with_hand w b h = record w { hands = set w.hands (b - 1) h }

-- the world, with one more entry in its journal
abbrev pub journaled : WorldView → Kind → List Key → WorldView
journaled w kind keys = record w {
  history = with_entry w.history
      (record { kind = kind; keys = keys });
}

-- the world at its opening: all rows are closed, all hands free
abbrev pub world_of : Table → Stock → ℕ → WorldView
world_of t s builders = record {
  history = opened t;
  supply = s;
  phases = replicate (length t) Closed;
  hands = replicate builders Free;
}

-- who has a row by its phase has it in hand: who claimed it holds it, and who ended its build has
-- ended it so
abbrev pub InHand : List Hand → Key → Phase → Type 0
InHand hands k Closed = Unit {0}
InHand hands k Open = Unit {0}
InHand hands k (Held b) = hand_in hands b ≡ Some (Holding k)
InHand hands k (Noted b) = hand_in hands b ≡ Some (Holding k)
InHand hands k (Done b o) = hand_in hands b ≡ Some (Finished k o)

-- what holds of every world: the rows rise, the standing entries are lawful, each entry has keys
-- that rise, each row has a phase that goes with its state, and with the hand of the builder who
-- has it
pub record IsWorld (w : WorldView) : Type 0 where
  pub rising : ascending (keys_of w.history.opening) ≡ true
  pub lawful : Lawful w.history.opening (standing w.history.journal)
  pub sized : length w.phases ≡ length w.history.opening
  pub suits : (k : Key) (p : Phase) (row : Row) → phase_of w k ≡ Some p
      → row_of (rows_of w.history) k ≡ Some row → Suits p row.state
  pub keys : EachHasKeys w.history.journal
  pub held : (k : Key) (p : Phase) → phase_of w k ≡ Some p → InHand w.hands k p
