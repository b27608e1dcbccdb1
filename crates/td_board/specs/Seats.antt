-- What contracts see of a board and of its seats, and what these types keep. This project's own.
use Rattle.std.specs.Prelude.{◌≡◌, ℕ, zero, suc, ◌+◌, ◌-◌, ◌<◌, ◌≤◌, List, [], ◌∷◌, length}
use Rattle.std.specs.Prelude.{slice_index}
use mathlib.Core.Option.{some}
use lib.ListN.{get_elem?}
use Rattle.atomic_table.specs.Seated.{TableId}
use Rattle.td_board.specs.Limits.{max_rows, max_builders}
use Rattle.td_board.specs.declared.views.RowView.TheVariants.{Seen, Known}
use Rattle.td_board.specs.declared.views.Hand.{Hand}
use Rattle.td_board.specs.declared.views.Hand.TheVariants.{Free, Holding, Finished}
use Rattle.td_board.specs.declared.views.DeskView.{DeskView}
use Rattle.td_board.specs.declared.views.BuilderView.{BuilderView}
use Rattle.td_board.specs.Knowledge.{new_builder}

-- a board: which table it is, and its number of rows
pub record BoardModel : Type 0 where
  pub table : TableId
  pub rows : ℕ

-- the desk's seat: the table that it sits at, and what the desk knows
pub record DeskModel : Type 0 where
  pub table : TableId
  pub desk : DeskView

-- a builder's seat: the table that it sits at, and what the builder knows
pub record BuilderModel : Type 0 where
  pub table : TableId
  pub builder : BuilderView

-- the number of rows of a board's table: one word is the spare one
abbrev pub rows_of : TableId → ℕ
rows_of table = table.words - 1

-- the row of a hand, if it has one, is one of this many
abbrev pub HasRow : ℕ → Hand → Type 0
HasRow rows Free = Unit {0}
HasRow rows (Holding r) = r < rows
HasRow rows (Finished r c) = r < rows

-- a builder's seat as it is made: this number, a free hand, nothing done
abbrev pub new_seat : TableId → ℕ → BuilderModel
new_seat table b = record { table = table; builder = new_builder b }

-- the seats of n builders as they are made, with the numbers b, b + 1, ..
abbrev pub new_seats : TableId → ℕ → ℕ → List BuilderModel
new_seats table b zero = []
new_seats table b (suc n) = new_seat table b ∷ new_seats table (suc b) n

-- each builder whom the desk knows to have a row is one of the board's, which the desk has a list
-- of
pub record KnowsItsBuilders (d : DeskView) : Type 0 where
  pub seen : (r b : ℕ) → get_elem? d.rows r ≡ some (Seen b) → (0 < b) × (b ≤ length d.noted)
  pub known : (r b : ℕ) → get_elem? d.rows r ≡ some (Known b) → (0 < b) × (b ≤ length d.noted)

-- what the desk's seat keeps: the table has a word for each row and a spare one, the list has the
-- builder of each row that is Seen or Known, and the limits hold
pub record IsDesk (table : TableId) (d : DeskView) (holders : List ℕ) (builders : ℕ) : Type 0 where
  pub words : table.words ≡ length d.rows + 1
  pub size : length d.rows ≤ max_rows
  pub long : length holders ≡ length d.rows
  pub small : (r : ℕ) → slice_index holders r ≤ max_builders
  pub count : builders ≡ length d.noted
  pub few : builders ≤ max_builders
  pub seen : (r b : ℕ) → get_elem? d.rows r ≡ some (Seen b) → slice_index holders r ≡ b
  pub known : (r b : ℕ) → get_elem? d.rows r ≡ some (Known b) → slice_index holders r ≡ b
  pub seated : KnowsItsBuilders d

-- what a builder's seat keeps: its number and hand are those of its view, the number is within the
-- limit, and the row in hand is in the table
pub record IsBuilder (table : TableId) (v : BuilderView) (number : ℕ) (hand : Hand) : Type 0 where
  pub number_is : number ≡ v.number
  pub hand_is : hand ≡ v.hand
  pub positive : 0 < number
  pub small : number ≤ max_builders
  pub inside : HasRow (rows_of table) hand
