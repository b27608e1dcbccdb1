-- What the answers of the board's calls say, by cases. This project's own.
use Rattle.std.specs.Prelude.{◌≡◌, ◌≢◌, ◌⊎◌, ℕ, ◌<◌, ◌≤◌, List, [], ◌∷◌, ◌++◌, length}
use Rattle.td_board.specs.Limits.{max_rows, max_builders}
use Rattle.td_board.specs.declared.views.RowView.TheVariants.{In, Seen}
use Rattle.td_board.specs.declared.views.Hand.{Hand}
use Rattle.td_board.specs.declared.views.Hand.TheVariants.{Free, Holding, Finished}
use Rattle.td_board.specs.declared.views.DeskTry.TheVariants.{WithdrawalWon, WithdrawalLost}
use Rattle.td_board.specs.declared.views.BuilderTry.{BuilderTry}
use Rattle.td_board.specs.declared.views.BuilderTry.TheVariants.{ClaimWon, ClaimLost, ReleaseDone}
use Rattle.td_board.specs.declared.views.BuilderTry.TheVariants.{ReleaseEarly}
use Rattle.td_board.specs.declared.board.MakeRefusal.{MakeRefusal}
use Rattle.td_board.specs.declared.board.MakeRefusal.TheVariants.{TooManyRows, TooManyBuilders}
use Rattle.td_board.specs.declared.board.MakeRefusal.TheVariants.{NoMemory}
use Rattle.td_board.specs.declared.desk.Withdrawal.{Withdrawal}
use Rattle.td_board.specs.declared.desk.Withdrawal.TheVariants.{Withdrawn, Held}
use Rattle.td_board.specs.Knowledge.{new_desk, with_row, desk_tried, with_claim, builder_tried}
use Rattle.td_board.specs.Seats.{BoardModel, DeskModel, BuilderModel, new_seats}

-- a board of this many rows, the desk's seat, and a seat for each of this many builders
pub record IsMade (rows builders : ℕ) (board : BoardModel) (desk : DeskModel)
    (seats : List BuilderModel) : Type 0 where
  pub rows_fit : rows ≤ max_rows
  pub builders_fit : builders ≤ max_builders
  pub board_rows : board.rows ≡ rows
  pub desk_seat : desk ≡ record { table = board.table; desk = new_desk rows builders }
  pub builder_seats : seats ≡ new_seats board.table 1 builders

-- when each refusal comes, of a board for this many rows and builders: too many rows before too
-- many builders, and out of memory only within both limits
abbrev pub IsRefusal : ℕ → ℕ → MakeRefusal → Type 0
IsRefusal rows builders TooManyRows = max_rows < rows
IsRefusal rows builders TooManyBuilders = (rows ≤ max_rows) × (max_builders < builders)
IsRefusal rows builders NoMemory = (rows ≤ max_rows) × (builders ≤ max_builders)

-- one try: a withdrawn row is In again; a held one is Seen, and its builder is one of the board's
abbrev pub Withdraws : ℕ → DeskModel → DeskModel → Withdrawal → Type 0
Withdraws row old new Withdrawn =
    new ≡ record old { desk = desk_tried (WithdrawalWon row) (with_row row In old.desk) }
Withdraws row old new (Held b) = (0 < b) × (b ≤ length old.desk.noted)
    × (new
    ≡ record old { desk = desk_tried (WithdrawalLost row b) (with_row row (Seen b) old.desk) })

-- ---- a claim

-- the release that comes before a claim, of a hand whose build is settled
abbrev pub released : Hand → List BuilderTry
released Free = []
released (Holding r) = []
released (Finished r c) = ReleaseDone r ∷ []

-- a claim is won: the row is one of the board's, the builder held none, and now it holds this one;
-- a finished hand was released before
abbrev pub IsWon : ℕ → ℕ → BuilderModel → BuilderModel → Type 0
IsWon rows row old new = (row < rows) × ((r : ℕ) → old.builder.hand ≢ Holding r)
    × (new ≡ record old {
      builder = record (with_claim row old.builder) {
        tried = old.builder.tried ++ (released old.builder.hand ++ ClaimWon row ∷ []);
      };
    })

-- the tries of a claim that a free hand lost: none, where there is no such row, or the row's own
abbrev pub LostFree : ℕ → ℕ → List BuilderTry → Type 0
LostFree rows row more =
    ((rows ≤ row) × (more ≡ [])) ⊎ ((row < rows) × (more ≡ ClaimLost row ∷ []))

-- the hand after a claim that was lost, and the claim's tries, by the hand before it: nothing is
-- tried if that holds a row; a finished one is released first, and if that comes too early nothing
-- more is tried
abbrev pub LostWith : ℕ → ℕ → Hand → Hand → List BuilderTry → Type 0
LostWith rows row Free hand more = (hand ≡ Free) × LostFree rows row more
LostWith rows row (Holding r) hand more = (hand ≡ Holding r) × (more ≡ [])
LostWith rows row (Finished r c) hand more =
    ((hand ≡ Finished r c) × (more ≡ ReleaseEarly r ∷ []))
    ⊎ ((hand ≡ Free)
    × ((rest : List BuilderTry) × (more ≡ ReleaseDone r ∷ rest) × LostFree rows row rest))

-- a claim is lost: the hand of a settled build may be freed, the tries are added to the builder's,
-- and nothing else changed
abbrev pub IsLost : ℕ → ℕ → BuilderModel → BuilderModel → Type 0
IsLost rows row old new = (hand : Hand) × (more : List BuilderTry)
    × LostWith rows row old.builder.hand hand more
    × (new ≡ record old {
      builder = record old.builder {
        hand = hand;
        tried = old.builder.tried ++ more;
      };
    })

-- a claim that is tried at once, whatever is in hand, is lost: there is no such row, or the hand
-- isn't free, and nothing changed; or the row was tried
abbrev pub LostAtOnce : ℕ → ℕ → BuilderModel → BuilderModel → Type 0
LostAtOnce rows row old new =
    ((rows ≤ row) × (new ≡ old))
    ⊎ ((old.builder.hand ≢ Free) × (new ≡ old))
    ⊎ ((old.builder.hand ≡ Free) × (row < rows)
    × (new ≡ record old { builder = builder_tried (ClaimLost row) old.builder }))
