-- What each kind of step tells the seat that makes it, also where it moved nothing. Row r has the
-- word r + 1. This project's own.
use Rattle.std.specs.Prelude.{◌≡◌, ◌≢◌, ℕ, ◌+◌, ◌<◌, ◌≤◌, [], length}
use Rattle.atomic_table.specs.Table.{Me, Step}
use Rattle.td_board.specs.declared.outcome.OutcomeCode.{OutcomeCode}
use Rattle.td_board.specs.declared.views.RowView.TheVariants.{In, Out, Seen, Known}
use Rattle.td_board.specs.declared.views.Deed.TheVariants.{Claim, Finish}
use Rattle.td_board.specs.declared.views.DeskTry.TheVariants.{WithdrawalWon, WithdrawalLost}
use Rattle.td_board.specs.declared.views.DeskTry.TheVariants.{SettleDone, SettleEarly}
use Rattle.td_board.specs.declared.views.DeskTry.TheVariants.{Offered, ClaimNoted}
use Rattle.td_board.specs.declared.views.BuilderTry.TheVariants.{ClaimLost, FinishEarly}
use Rattle.td_board.specs.declared.views.BuilderTry.TheVariants.{ReleaseEarly}
use Rattle.td_board.specs.declared.views.Hand.TheVariants.{Finished}
use Rattle.td_board.specs.declared.views.DeskView.{DeskView}
use Rattle.td_board.specs.declared.views.BuilderView.{BuilderView}
use Rattle.td_board.specs.declared.views.View.{View}
use Rattle.td_board.specs.declared.views.View.TheVariants.{Desk, Builder}
use Rattle.td_board.specs.Phase.{held, noted, done, word_of}
use Rattle.td_board.specs.Knowledge.{new_desk, with_builder, with_row, with_deed, new_builder}
use Rattle.td_board.specs.Knowledge.{with_claim, with_finish, with_free_hand, desk_tried}
use Rattle.td_board.specs.Knowledge.{builder_tried}

-- a seat, as the table sees it: its view, and the slots that it holds, which are none here
abbrev pub SeatState : Type 0
SeatState = Me (Unit {0}) View

-- a step, as the table sees it: the word, and the numbers that the call compares and writes
abbrev pub AtomicStep : Type 0
AtomicStep = Step (Unit {0})

-- what the desk knows, of a seat of the desk's
abbrev pub desk_in : View → DeskView
desk_in (Desk d) = d
desk_in (Builder v) = new_desk 0 0

-- what the builder knows, of a builder's seat
abbrev pub builder_in : View → BuilderView
builder_in (Desk d) = new_builder 0
builder_in (Builder v) = v

-- the desk's seat, with this view
abbrev pub at_desk : DeskView → SeatState
at_desk d = (Desk d, [])

-- a builder's seat, with this view
abbrev pub at_builder : BuilderView → SeatState
at_builder v = (Builder v, [])

-- what the desk knows once a builder's seat was split off
abbrev pub desk_half : View → View
desk_half (Desk d) = Desk (with_builder d)
desk_half (Builder v) = Builder v

-- what the builder knows whose seat was split off: the next number is its own
abbrev pub builder_half : View → View
builder_half (Desk d) = Builder (new_builder (length d.noted + 1))
builder_half (Builder v) = Builder v

-- an offer: the row is Out
abbrev pub OfferTells : AtomicStep → SeatState → ℕ → SeatState → Type 0
OfferTells st m n m' = (r : ℕ) → st.word ≡ r + 1
    → m' ≡ at_desk (desk_tried (Offered r) (with_row r Out (desk_in m.0)))

-- a withdrawal: where the word found is Open the row is In again,
-- else the word names the builder that was faster
abbrev pub WithdrawTells : AtomicStep → SeatState → ℕ → SeatState → Type 0
WithdrawTells st m n m' = (r : ℕ) → st.word ≡ r + 1
    → (n ≡ 1 → m' ≡ at_desk (desk_tried (WithdrawalWon r) (with_row r In (desk_in m.0))))
    × (n ≢ 1 → (b : ℕ) × (n ≡ word_of (held b)) × (0 < b) × (b ≤ length (desk_in m.0).noted)
    × (m' ≡ at_desk (desk_tried (WithdrawalLost r b) (with_row r (Seen b) (desk_in m.0)))))

-- a claim: where the word found is Open the builder holds the row, else it was tried
abbrev pub ClaimTells : AtomicStep → SeatState → ℕ → SeatState → Type 0
ClaimTells st m n m' = (r : ℕ) → st.word ≡ r + 1
    → (n ≡ 1 → m' ≡ at_builder (with_claim r (builder_in m.0)))
    × (n ≢ 1 → m' ≡ at_builder (builder_tried (ClaimLost r) (builder_in m.0)))

-- a note of the claim of builder b, which is one of the board's
abbrev pub NoteTells : AtomicStep → SeatState → ℕ → SeatState → Type 0
NoteTells st m n m' = (r b : ℕ) → st.word ≡ r + 1 → st.first ≡ word_of (noted b)
    → (0 < b) × (b ≤ length (desk_in m.0).noted)
    × (m'
    ≡ at_desk (desk_tried (ClaimNoted r b)
    (with_deed b (Claim r) (with_row r (Known b) (desk_in m.0)))))

-- a finish: where the word found is Noted the hand is Finished, else it was tried
abbrev pub FinishTells : AtomicStep → SeatState → ℕ → SeatState → Type 0
FinishTells st m n m' = (r : ℕ) (c : OutcomeCode) → st.word ≡ r + 1
    → st.second ≡ word_of (done (builder_in m.0).number c)
    → (n ≡ st.first → m' ≡ at_builder (with_finish r c (builder_in m.0)))
    × (n ≢ st.first → m' ≡ at_builder (builder_tried (FinishEarly r c) (builder_in m.0)))

-- a settling: where the word found is Done with this outcome the row is In and the outcome noted,
-- else it was tried
abbrev pub SettleTells : AtomicStep → SeatState → ℕ → SeatState → Type 0
SettleTells st m n m' = (r b : ℕ) (c : OutcomeCode) → st.word ≡ r + 1
    → st.first ≡ word_of (done b c)
    → (n ≡ st.first
    → m'
    ≡ at_desk (desk_tried (SettleDone r c)
    (with_deed b (Finish r c) (with_row r In (desk_in m.0)))))
    × (n ≢ st.first → m' ≡ at_desk (desk_tried (SettleEarly r c) (desk_in m.0)))

-- a release: where the word found isn't Done by this builder any more its hand is free,
-- else it was tried
abbrev pub ReleaseTells : AtomicStep → SeatState → ℕ → SeatState → Type 0
ReleaseTells st m n m' = (r : ℕ) (c : OutcomeCode) → st.word ≡ r + 1
    → (builder_in m.0).hand ≡ Finished r c
    → (n ≡ word_of (done (builder_in m.0).number c)
    → m' ≡ at_builder (builder_tried (ReleaseEarly r) (builder_in m.0)))
    × (n ≢ word_of (done (builder_in m.0).number c)
    → m' ≡ at_builder (with_free_hand (builder_in m.0)))
