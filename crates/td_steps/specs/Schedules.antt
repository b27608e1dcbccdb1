-- Every schedule of a board at whose desk's seat a book is kept is a run of a world: with the
-- desk's steps in their order, and each builder's in its own. This project's own.
use Rattle.std.specs.Prelude.{◌≡◌, ℕ, suc, List, [], ◌∷◌, ◌++◌, length, slice_get, Some}
use Rattle.td_board.specs.declared.views.BuilderView.{BuilderView}
use Rattle.td_board.specs.declared.views.Hand.{Hand as BoardHand}
use Rattle.td_board.specs.declared.views.Hand.TheVariants as board
use Rattle.td_board.specs.Phase.{Phase as BoardPhase, closed, opened, held, noted, done}
use Rattle.td_board.specs.Seats.{DeskModel}
use Rattle.td_board.specs.Steps.{Moment, IsAt, DeskKnows, BuilderKnows, Reached}
use Rattle.td_rows.specs.declared.key.Key.{Key}
use Rattle.td_rows.specs.Table.{keys_of}
use Rattle.td_core.specs.declared.step.Phase.{Phase}
use Rattle.td_core.specs.declared.step.Phase.TheVariants.{Closed, Open, Held, Noted, Done}
use Rattle.td_core.specs.declared.step.Hand.{Hand}
use Rattle.td_core.specs.declared.step.Hand.TheVariants.{Free, Holding, Finished}
use Rattle.td_core.specs.History.{History, rows_of}
use Rattle.td_core.specs.Worlds.{WorldView, hand_of}
use Rattle.td_book.specs.AtRest.{IsAtRest}
use Rattle.td_book.specs.Deeds.{code_of}
use Rattle.td_book.specs.Desk.{Fixed, BookModel}
use Rattle.td_steps.specs.Moves.{Move}
use Rattle.td_steps.specs.Runs.{Runs, Goes}
use Rattle.td_steps.specs.Parts.{offering}
use Rattle.td_steps.specs.Openings.{world_from, desk_from, MayOpen, begun}
use Rattle.td_steps.specs.Books.{Call, Does, DoAll}
use Rattle.td_steps.specs.Calls.{MovesOf}
use Rattle.td_steps.specs.Tries.{AreMade}
use Rattle.td_steps.specs.Theirs.{theirs_in, AreTaken}

-- a row's phase at the board is this one in a world. The board has how a build ended without its
-- text
abbrev pub SamePhase : BoardPhase → Phase → Type 0
SamePhase closed Closed = Unit {0}
SamePhase opened Open = Unit {0}
SamePhase (held b) (Held c) = b ≡ c
SamePhase (noted b) (Noted c) = b ≡ c
SamePhase (done b c) (Done d o) = (b ≡ d) × (code_of o ≡ c)
SamePhase p q = ⊥

-- what a builder has in hand at the board, a row by its number, is this in a world, a row by its
-- key
abbrev pub SameHand : List Key → BoardHand → Hand → Type 0
SameHand keys board.Free Free = Unit {0}
SameHand keys (board.Holding r) (Holding k) = slice_get keys r ≡ Some k
SameHand keys (board.Finished r c) (Finished k o) =
    (slice_get keys r ≡ Some k) × (code_of o ≡ c)
SameHand keys h g = ⊥

-- a world is as the board is at a moment: each row's phase, and what each builder has in hand
pub record Shows (m : Moment) (w : WorldView) : Type 0 where
  pub rows : length w.phases ≡ length m.phases
  pub builders : suc (length w.hands) ≡ length m.views
  pub phases : (r : ℕ) (p : BoardPhase) → IsAt m r p
      → (q : Phase) × (slice_get w.phases r ≡ Some q) × SamePhase p q
  pub hands : (b : ℕ) (v : BuilderView) → BuilderKnows m b v
      → (g : Hand) × (hand_of w b ≡ Some g) × SameHand (keys_of w.history.opening) v.hand g

-- the moves are those of the calls, one call after the other, and of each call they are what the
-- desk did for it at the board
abbrev pub AreCalls : List Call → BookModel → BookModel → List Move → Type 0
AreCalls [] old new moves = (new ≡ old) × (moves ≡ [])
AreCalls (c ∷ calls) old new moves =
    (between : BookModel) × Does c old between × (first : List Move) × MovesOf c old first
    × AreMade old between first × (rest : List Move) × AreCalls calls between new rest
    × (moves ≡ first ++ rest)

-- At every moment of every schedule of a board: if the desk's seat is a book's at rest, after any
-- calls since the book began with a history, there is a run of the world that begins with it. Its
-- moves are the first offers and then those of the calls, the ones that the desk made at the board;
-- the builders' steps between them are those that these took at the board; each move is answered as
-- `answer_of` says; and the run leads to a world with the book's history that is as the board is.
-- No choice of moves is free, and that there be a run is no premise
abbrev pub SchedulesRun : Type 0
SchedulesRun =
    (rows : ℕ) (m : Moment) → Reached rows m → (seat : DeskModel) → DeskKnows m seat.desk
    → (h : History) (fixed : Fixed) (calls : List Call) (new : BookModel) → MayOpen h
    → DoAll calls (begun h fixed) new → IsAtRest seat new →
    (moves : List Move) × AreCalls calls (begun h fixed) new moves × (v : WorldView)
    × (let all = offering (rows_of h) (keys_of (rows_of h)) ++ moves in
    (run : Runs (world_from h fixed.stock fixed.builders) all v)
    × AreTaken (keys_of h.opening) m
    (theirs_in (world_from h fixed.stock fixed.builders) v all run)
    × Goes (world_from h fixed.stock fixed.builders) (desk_from h fixed.stock fixed.builders) all v)
    × (v.history ≡ new.history) × Shows m v
