-- The rule of the board's table: what holds of its words and views between any two atomic steps.
-- This project's own.
use Rattle.std.specs.Prelude.{◌≡◌, ℕ, List, ◌∷◌, map}
use Rattle.atomic_table.specs.Table.{State}
use Rattle.td_board.specs.declared.views.View.{View}
use Rattle.td_board.specs.declared.views.View.TheVariants.{Desk}
use Rattle.td_board.specs.Phase.{Phase, word_of}
use Rattle.td_board.specs.Knowledge.{new_desk}
use Rattle.td_board.specs.Steps.{moment_of, Reached}

-- the phases and the views are what some schedule leaves, and the words show these phases. Word 0
-- is a spare one, at which seats are split off; row r has the word r + 1
pub record Ruled (rows : ℕ) (s : State (Unit {0}) View) : Type 0 where
  pub phases : List Phase
  pub words_are : s.words ≡ 0 ∷ map word_of phases
  pub reached : Reached rows (moment_of phases s.views)

-- what the first seat of a table knows: it is the desk's
abbrev pub first_view : ℕ → View
first_view rows = Desk (new_desk rows 0)
