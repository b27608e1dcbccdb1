-- What a floor's calls say of a builder's seat. This project's own.
use Rattle.std.specs.Prelude.{◌≡◌, ◌≢◌, ◌⊎◌, ℕ}
use Rattle.td_rows.specs.declared.outcome.Outcome.{Outcome}
use Rattle.td_board.specs.declared.outcome.OutcomeCode.{OutcomeCode}
use Rattle.td_board.specs.declared.views.Hand.TheVariants.{Holding}
use Rattle.td_board.specs.Seats.{BuilderModel}
use Rattle.td_board.specs.declared.views.BuilderTry.TheVariants.{FinishEarly}
use Rattle.td_board.specs.Knowledge.{with_finish, builder_tried}
use Rattle.td_book.specs.Deeds.{code_of}

-- the seat holds a row
abbrev pub IsHolding : BuilderModel → Type 0
IsHolding s = (r : ℕ) × (s.builder.hand ≡ Holding r)

-- the seat holds no row: its hand is free, or its build ended
abbrev pub IsIdle : BuilderModel → Type 0
IsIdle s = (r : ℕ) → s.builder.hand ≢ Holding r

-- the end of the build of the row in hand was tried with an outcome of this code and came too
-- early, and nothing else changed
abbrev pub IsEarly : OutcomeCode → BuilderModel → BuilderModel → Type 0
IsEarly c old new =
    (r : ℕ) × (old.builder.hand ≡ Holding r)
    × (new ≡ record old { builder = builder_tried (FinishEarly r c) old.builder })

-- the build of the row in hand ended with this outcome, with which it may end at this seat, and
-- nothing else changed
abbrev pub IsFinished : (BuilderModel → Outcome → Type 0) → Outcome → BuilderModel → BuilderModel
    → Type 0
IsFinished ends o old new =
    (r : ℕ) × (old.builder.hand ≡ Holding r) × ends old o
    × (new ≡ record old { builder = with_finish r (code_of o) old.builder })

-- the end of a build with this outcome was refused: nothing changed, or it came too early, or the
-- build broke off so and ended all the same
abbrev pub IsRefused : (BuilderModel → Outcome → Type 0) → Outcome → BuilderModel → BuilderModel
    → Type 0
IsRefused breaks_off o old new =
    (new ≡ old) ⊎ IsEarly (code_of o) old new ⊎ IsFinished breaks_off o old new
