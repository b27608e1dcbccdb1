-- What the calls that answer a line come to, by the reply. This project's own.
use Rattle.std.specs.Prelude.{◌≡◌, ℕ, Bool, true, false, List, ◌++◌, Option, Some, None, Result}
use Rattle.std.specs.Prelude.{IfOk}
use Rattle.std.specs.Prelude.{codes, is_some, slice_get}
use Rattle.td_rows.specs.Appending.{Grown}
use Rattle.td_rows.specs.declared.key.Key.{Key}
use Rattle.td_rows.specs.declared.kind.Kind.TheVariants as kinds
use Rattle.td_rows.specs.declared.row.Row.{Row}
use Rattle.td_rows.specs.Meaning.{applies}
use Rattle.td_rows.specs.StateWord.{state_word}
use Rattle.td_rows.specs.Table.{Table, row_of}
use Rattle.td_script.specs.Replies.{Reply, refusal_line}
use Rattle.td_lasting.specs.declared.building.ClaimRefusal.{ClaimRefusal}
use Rattle.td_lasting.specs.declared.building.ClaimRefusal.TheVariants.{NoSuchRow, NotFree}
use Rattle.td_lasting.specs.declared.building.ClaimRefusal.TheVariants.{DoesNotApply}
use Rattle.td_lasting.specs.declared.chronicle.DeskFault.{DeskFault}
use Rattle.td_lasting.specs.DeskView.{DeskView, IsDone, IsReplied}
use Rattle.td_lasting.specs.Events.{events_by}
use Rattle.td_lasting.specs.Hands.{held_by}

-- the reply's text is appended and its events are done; or the call failed, and a front of the text
-- may be appended
pub record IsAnswered (r : Reply) (asks : Option ℕ) (old new : DeskView) (before now : List ℕ)
    (result : Result Bool DeskFault) : Type 0 where
  pub replied : IfOk result (IsReplied r new before now)
  pub done : IsDone (events_by old.history r asks) old new result
  pub front : Grown before now

-- ---- a claim

-- a builder may take the row with this number, which is the key's
pub record IsClaimable (t : Table) (b : ℕ) (k : Key) (number : ℕ) : Type 0 where
  pub row : Row
  pub at : slice_get t number ≡ Some (k, row)
  pub found : row_of t k ≡ Some row
  pub free : held_by t b ≡ None
  pub fit : applies (kinds.Claim b) row ≡ true

-- why it may not
abbrev pub IsClaimStop : Table → ℕ → Key → ClaimRefusal → Type 0
IsClaimStop t b k NoSuchRow = row_of t k ≡ None
IsClaimStop t b k NotFree =
    (row : Row) × (row_of t k ≡ Some row) × (is_some (held_by t b) ≡ true)
IsClaimStop t b k (DoesNotApply s) =
    (row : Row) × (row_of t k ≡ Some row) × (held_by t b ≡ None)
    × (applies (kinds.Claim b) row ≡ false) × (s ≡ row.state)

-- the line of the refusal
abbrev pub claim_refused : ClaimRefusal → List ℕ
claim_refused NoSuchRow = refusal_line (codes "NoSuchRow")
claim_refused NotFree = refusal_line (codes "NotFree")
claim_refused (DoesNotApply s) = refusal_line (codes "DoesNotApply " ++ state_word s)
