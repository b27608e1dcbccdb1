-- The fourteen kinds of atomic step on the board as plain data, and the moments that they lead to.
-- This project's own.
use Rattle.std.specs.Prelude.{◌≡◌, ◌≢◌, ℕ, suc, List, [], ◌∷◌, ◌++◌, length, replicate, slice_set}
use mathlib.Core.Option.{some}
use lib.ListN.{get_elem?}
use Rattle.td_board.specs.declared.outcome.OutcomeCode.{OutcomeCode}
use Rattle.td_board.specs.declared.views.RowView.{RowView}
use Rattle.td_board.specs.declared.views.RowView.TheVariants.{In, Out, Seen, Known}
use Rattle.td_board.specs.declared.views.Deed.TheVariants.{Claim, Finish}
use Rattle.td_board.specs.declared.views.DeskTry.TheVariants.{WithdrawalWon, WithdrawalLost}
use Rattle.td_board.specs.declared.views.DeskTry.TheVariants.{SettleDone, SettleEarly}
use Rattle.td_board.specs.declared.views.DeskTry.TheVariants.{Offered, ClaimNoted}
use Rattle.td_board.specs.declared.views.BuilderTry.TheVariants.{ClaimLost, FinishEarly}
use Rattle.td_board.specs.declared.views.BuilderTry.TheVariants.{ReleaseEarly}
use Rattle.td_board.specs.declared.views.Hand.TheVariants.{Free, Holding, Finished}
use Rattle.td_board.specs.declared.views.DeskView.{DeskView}
use Rattle.td_board.specs.declared.views.BuilderView.{BuilderView}
use Rattle.td_board.specs.declared.views.View.{View}
use Rattle.td_board.specs.declared.views.View.TheVariants.{Desk, Builder}
use Rattle.td_board.specs.Phase.{Phase, closed, opened, held, noted, done}
use Rattle.td_board.specs.Knowledge.{new_desk, with_builder, with_row, with_deed, new_builder}
use Rattle.td_board.specs.Knowledge.{with_claim, with_finish, with_free_hand, desk_tried}
use Rattle.td_board.specs.Knowledge.{builder_tried}

-- the board at one moment: the phase of each row, and what each seat knows.
-- The desk's seat comes first, then that of builder 1, and so on
pub record Moment : Type 0 where
  pub phases : List Phase
  pub views : List View

-- the moment with these phases and views
abbrev pub moment_of : List Phase → List View → Moment
moment_of phases views = record { phases = phases; views = views }

-- the row r is in the phase p
abbrev pub IsAt : Moment → ℕ → Phase → Type 0
IsAt m r p = get_elem? m.phases r ≡ some p

-- the desk knows this
abbrev pub DeskKnows : Moment → DeskView → Type 0
DeskKnows m d = get_elem? m.views 0 ≡ some (Desk d)

-- the builder b knows this
abbrev pub BuilderKnows : Moment → ℕ → BuilderView → Type 0
BuilderKnows m b v = get_elem? m.views b ≡ some (Builder v)

-- the desk knows x of the row r
abbrev pub Shows : DeskView → ℕ → RowView → Type 0
Shows d r x = get_elem? d.rows r ≡ some x

-- a new board: every row is closed, and only the desk has a seat
abbrev pub new_board : ℕ → Moment
new_board rows = record { phases = replicate rows closed; views = Desk (new_desk rows 0) ∷ [] }

-- a builder more takes a seat
abbrev pub seated : DeskView → Moment → Moment
seated d m = record {
  phases = m.phases;
  views = slice_set m.views 0 (Desk (with_builder d))
      ++ Builder (new_builder (suc (length d.noted))) ∷ [];
}

-- the seat i knows w from now on
abbrev pub learned : ℕ → View → Moment → Moment
learned i w m = record { phases = m.phases; views = slice_set m.views i w }

-- the row r comes into the phase p, and the seat that made the step knows w from now on
abbrev pub moved : ℕ → Phase → ℕ → View → Moment → Moment
moved r p i w m = record { phases = slice_set m.phases r p; views = slice_set m.views i w }

-- One atomic step of a seat leads from m to n. With the making of the board these are its fourteen
-- kinds: each says when it comes, which phase it changes, and what its own seat knows afterwards.
-- Each except the split of a seat is added to its own seat's list, also a try that moves nothing
pub data Step (m n : Moment) : Type 0 where
  -- a builder's seat is split off the desk's
  seat : (d : DeskView) → DeskKnows m d → n ≡ seated d m → Step m n
  -- the desk offers a row
  offer : (r : ℕ) (d : DeskView) → DeskKnows m d → Shows d r In → IsAt m r closed
      → n ≡ moved r opened 0 (Desk (desk_tried (Offered r) (with_row r Out d))) m → Step m n
  -- the desk takes an offer back
  withdrawal_won : (r : ℕ) (d : DeskView) → DeskKnows m d → Shows d r Out → IsAt m r opened
      → n ≡ moved r closed 0 (Desk (desk_tried (WithdrawalWon r) (with_row r In d))) m → Step m n
  -- a builder was faster, and the desk sees which
  withdrawal_lost : (r b : ℕ) (d : DeskView) → DeskKnows m d → Shows d r Out → IsAt m r (held b)
      → n ≡ learned 0 (Desk (desk_tried (WithdrawalLost r b) (with_row r (Seen b) d))) m → Step m n
  -- a builder with a free hand claims an open row
  claim_won : (r b : ℕ) (v : BuilderView) → BuilderKnows m b v → v.hand ≡ Free → IsAt m r opened
      → n ≡ moved r (held b) b (Builder (with_claim r v)) m → Step m n
  -- the row wasn't open
  claim_lost : (r b : ℕ) (p : Phase) (v : BuilderView) → BuilderKnows m b v → v.hand ≡ Free
      → IsAt m r p → p ≢ opened → n ≡ learned b (Builder (builder_tried (ClaimLost r) v)) m
      → Step m n
  -- the desk notes the claim that it saw
  note : (r b : ℕ) (d : DeskView) → DeskKnows m d → Shows d r (Seen b) → IsAt m r (held b)
      → n ≡ moved r (noted b) 0
      (Desk (desk_tried (ClaimNoted r b) (with_deed b (Claim r) (with_row r (Known b) d)))) m
      → Step m n
  -- a builder finishes the row that it holds
  finish_done : (r b : ℕ) (c : OutcomeCode) (v : BuilderView) → BuilderKnows m b v
      → v.hand ≡ Holding r → IsAt m r (noted b)
      → n ≡ moved r (done b c) b (Builder (with_finish r c v)) m → Step m n
  -- a builder tries to finish the row that it holds, but its claim isn't noted yet
  finish_early : (r b : ℕ) (c : OutcomeCode) (p : Phase) (v : BuilderView) → BuilderKnows m b v
      → v.hand ≡ Holding r → IsAt m r p → p ≢ noted b
      → n ≡ learned b (Builder (builder_tried (FinishEarly r c) v)) m → Step m n
  -- the desk closes the row of a finished build, and notes the outcome
  settle_done : (r b : ℕ) (c : OutcomeCode) (d : DeskView) → DeskKnows m d → Shows d r (Known b)
      → IsAt m r (done b c)
      → n ≡ moved r closed 0
      (Desk (desk_tried (SettleDone r c) (with_deed b (Finish r c) (with_row r In d)))) m → Step m n
  -- the build hasn't ended with this outcome
  settle_early : (r b : ℕ) (c : OutcomeCode) (p : Phase) (d : DeskView) → DeskKnows m d
      → Shows d r (Known b) → IsAt m r p → p ≢ done b c
      → n ≡ learned 0 (Desk (desk_tried (SettleEarly r c) d)) m → Step m n
  -- a builder whose finish is settled frees its hand
  release_done : (r b : ℕ) (c : OutcomeCode) (p : Phase) (v : BuilderView) → BuilderKnows m b v
      → v.hand ≡ Finished r c → IsAt m r p → p ≢ done b c
      → n ≡ learned b (Builder (with_free_hand v)) m → Step m n
  -- a builder tries to free its hand, but its finish isn't settled yet
  release_early : (r b : ℕ) (c : OutcomeCode) (v : BuilderView) → BuilderKnows m b v
      → v.hand ≡ Finished r c → IsAt m r (done b c)
      → n ≡ learned b (Builder (builder_tried (ReleaseEarly r) v)) m → Step m n

-- a board of this many rows is at this moment after some schedule: a list of steps, one after the
-- other, of whichever seats
pub data Reached (rows : ℕ) : Moment → Type 0 where
  made : Reached rows (new_board rows)
  after : {m n : Moment} → Reached rows m → Step m n → Reached rows n
