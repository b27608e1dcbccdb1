-- What clauses see of a desk in a file, what holds of each, and what its calls do. This project's
-- own.
use Rattle.std.specs.Prelude.{◌≡◌, ◌≢◌, ◌⊎◌, ◌++◌, ◌≤◌, ◌+◌, ◌^◌, ℕ, Bool, true, false, List, []}
use Rattle.std.specs.Prelude.{Option, Result, Ok, OnOk, IsErrOf, IsTrue, IsUtf8, length, take}
use Rattle.td_rows.specs.declared.key.Key.{Key}
use Rattle.td_rows.specs.Keys.{names}
use Rattle.td_rows.specs.KeyText.{KeyFits}
use Rattle.td_rows.specs.Table.{keys_of}
use Rattle.td_supply.specs.Supply.{Stock}
use Rattle.td_core.specs.History.{History, rows_of}
use Rattle.td_ledger.specs.Calls.{Known, Passes}
use Rattle.td_ledger.specs.Disk.{Finds, IsSynced}
use Rattle.td_ledger.specs.Kept.{Opens}
use Rattle.td_ledger.specs.Lines.{text_of, whole_lines}
use Rattle.td_ledger.specs.Views.{LedgerView}
use Rattle.td_script.specs.declared.request.Request.{Request}
use Rattle.td_script.specs.declared.request.Request.TheVariants.{Undo, Arrive, Sweep}
use Rattle.td_script.specs.Replies.{Reply}
use Rattle.td_lasting.specs.declared.chronicle.DeskFault.{DeskFault}
use Rattle.td_lasting.specs.declared.chronicle.DeskFault.TheVariants.{Stopped, CannotWrite}
use Rattle.td_lasting.specs.declared.chronicle.DeskFault.TheVariants.{NoMemory}
use Rattle.td_lasting.specs.declared.event.Event.{Event}
use Rattle.td_lasting.specs.FileText.{event_lines}
use Rattle.td_lasting.specs.Following.{followed_all}
use Rattle.td_lasting.specs.Hands.{AreInHand}
use Rattle.td_lasting.specs.Telling.{told_by}

-- the history, what the index offers, what is known of the file's device, and whether the file
-- couldn't be written, after which nothing more is answered
pub record DeskView : Type 0 where
  pub history : History
  pub stock : Stock
  pub device : Known
  pub stopped : Bool

-- ---- 1. what holds of every desk

-- the file is that of the history: its lines tell it
abbrev pub IsHistoryOf : History → Known → Type 0
IsHistoryOf h device = told_by h.opening (whole_lines device.disk.content) ≡ Ok h

-- the keys of the rows can be written; and unless it has stopped, its file is on the disk, has
-- whole lines of text, and tells the history
pub record IsFiled (h : History) (device : Known) (stopped : Bool) : Type 0 where
  pub keys : (k : Key) → names (keys_of h.opening) k ≡ true → KeyFits k
  pub synced : stopped ≡ false → IsTrue device.honest → IsSynced device.disk
  pub text : stopped ≡ false → IsTrue device.honest
      → IsUtf8 (text_of (whole_lines device.disk.content))
  pub some : stopped ≡ false → IsTrue device.honest → whole_lines device.disk.content ≢ []
  pub told : stopped ≡ false → IsTrue device.honest → IsHistoryOf h device

-- so it is of a desk at rest
abbrev pub IsAtRest : DeskView → Type 0
IsAtRest v = IsFiled v.history v.device v.stopped

-- so it is of every desk; and until it has stopped, each row that is Building is in its builder's
-- hand
pub record IsDesk (v : DeskView) (hands : List (Option ℕ)) : Type 0 where
  pub rest : IsAtRest v
  pub in_hand : v.stopped ≡ false → AreInHand (rows_of v.history) hands

-- its ledger goes on until the desk has stopped
pub record IsChronicle (h : History) (ledger : LedgerView) (stopped : Bool) : Type 0 where
  pub filed : IsFiled h ledger.device stopped
  pub goes_on : stopped ≡ false → ledger.stopped ≡ false

-- ---- 2. what may be found in the file

-- the file opens under this header, and tells the history after some first ones of these events
pub record TellsUpTo (header : List ℕ) (h : History) (events : List Event)
    (file : List ℕ) : Type 0 where
  pub count : ℕ
  pub within : count ≤ length events
  pub opens : Opens header file
  pub tells : told_by h.opening (whole_lines file) ≡ Ok (followed_all h (take count events))

-- ---- 3. what calls do

-- the file would have 2^64 bytes or more
abbrev pub IsTooLong : Known → History → List Event → Type 0
IsTooLong device h events =
    2 ^ 64 ≤ length device.disk.content + length (text_of (event_lines h events))

-- A call that is to bring these events did so, or failed. Where it returns Ok they are done and on
-- the disk. Whatever stops at whatever moment of the call, the file is found with the history
-- before it, or with some first ones of the events. Want of memory changes nothing; a file that
-- can't be written ends all.
pub record IsDone {A : Type 0} (events : List Event) (old new : DeskView)
    (result : Result A DeskFault) : Type 0 where
  pub stock : new.stock ≡ old.stock
  pub honest : new.device.honest ≡ old.device.honest
  pub done : OnOk result (new.history ≡ followed_all old.history events)
  pub goes_on : OnOk result (new.stopped ≡ false)
  pub steady : OnOk result (new.device.can_fail ≡ old.device.can_fail)
  pub untouched : events ≡ [] → new ≡ old
  pub synced : IsTrue old.device.honest → OnOk result ((events ≡ []) ⊎ IsSynced new.device.disk)
  pub any_moment : IsTrue old.device.honest → old.stopped ≡ false → (header : List ℕ)
      → Passes (Finds (TellsUpTo header old.history events)) old.device new.device
  pub memory : IsErrOf result NoMemory → new ≡ old
  pub refused : IsErrOf result Stopped → (old.stopped ≡ true) × (new ≡ old)
  pub failed : IsErrOf result CannotWrite → new.stopped ≡ true
  pub due : IsErrOf result CannotWrite → IsTrue old.device.honest
      → (old.device.can_fail ≡ true) ⊎ IsTooLong old.device old.history events

-- the reply's text is appended, its history is the desk's, and it is told whether the line is
-- refused
pub record IsReplied (r : Reply) (new : DeskView) (before now : List ℕ)
    (refused : Bool) : Type 0 where
  pub text : now ≡ before ++ r.text
  pub history : new.history ≡ r.after
  pub refusal : refused ≡ r.refused

-- the text of a reply that changes nothing is appended, and it is told whether the line is refused
pub record IsShown (r : Reply) (before now : List ℕ) (refused : Bool) : Type 0 where
  pub text : now ≡ before ++ r.text
  pub refusal : refused ≡ r.refused

-- a request that asks for no change
abbrev pub OnlyAsks : Request → Type 0
OnlyAsks (Undo n) = ⊥
OnlyAsks (Arrive k) = ⊥
OnlyAsks Sweep = ⊥
OnlyAsks r = Unit {0}
