-- What the desk does at the board for its moves. This project's own.
use Rattle.std.specs.Prelude.{◌≡◌, List, [], ◌∷◌, ◌++◌}
use Rattle.td_board.specs.declared.views.DeskTry.{DeskTry}
use Rattle.td_board.specs.declared.views.DeskTry.TheVariants.{Offered, WithdrawalWon}
use Rattle.td_board.specs.declared.views.DeskTry.TheVariants.{WithdrawalLost}
use Rattle.td_board.specs.declared.views.DeskTry.TheVariants.{ClaimNoted, SettleDone, SettleEarly}
use Rattle.td_rows.specs.Table.{Table}
use Rattle.td_change.specs.Saved.{number_of}
use Rattle.td_book.specs.Deeds.{code_of}
use Rattle.td_book.specs.Desk.{BookModel}
use Rattle.td_steps.specs.Moves.{Move, offer, won, lost, note, commit, undo, settle, arrive, sweep}

-- what a move is at the board, by the numbers of the rows in a table: the step of that name, of
-- which the board knows how a build ended without its text; a move that is only an entry is nothing
-- there
abbrev pub tries_of : Table → Move → List DeskTry
tries_of t (offer k) = Offered (number_of t k) ∷ []
tries_of t (won k) = WithdrawalWon (number_of t k) ∷ []
tries_of t (lost k b) = WithdrawalLost (number_of t k) b ∷ []
tries_of t (note k b) = ClaimNoted (number_of t k) b ∷ []
tries_of t (settle k b o) = SettleDone (number_of t k) (code_of o) ∷ []
tries_of t (commit kind keys) = []
tries_of t (undo n) = []
tries_of t (arrive k) = []
tries_of t sweep = []

-- what the moves are there, in order
abbrev pub tried_in : Table → List Move → List DeskTry
tried_in t [] = []
tried_in t (m ∷ ms) = tries_of t m ++ tried_in t ms

-- the desk's steps at the board without the settlings that came too early, which change nothing
abbrev pub done_in : List DeskTry → List DeskTry
done_in [] = []
done_in (Offered r ∷ ts) = Offered r ∷ done_in ts
done_in (WithdrawalWon r ∷ ts) = WithdrawalWon r ∷ done_in ts
done_in (WithdrawalLost r b ∷ ts) = WithdrawalLost r b ∷ done_in ts
done_in (ClaimNoted r b ∷ ts) = ClaimNoted r b ∷ done_in ts
done_in (SettleDone r c ∷ ts) = SettleDone r c ∷ done_in ts
done_in (SettleEarly r c ∷ ts) = done_in ts

-- what the desk did at the board between two moments of a book is just what the moves are there, in
-- order
abbrev pub AreMade : BookModel → BookModel → List Move → Type 0
AreMade old new moves = done_in new.tries ≡ done_in old.tries ++ tried_in old.history.opening moves
