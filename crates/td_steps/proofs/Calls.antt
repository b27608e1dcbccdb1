-- Any list of a book's calls leads from worlds that the book sees to worlds that it sees.
use Rattle.std.proofs.Common.{[], ◌∷◌, sym, subst}
use Rattle.td_core.specs.History.{opened}
use Rattle.td_core.specs.Worlds.{WorldView}
use Rattle.td_book.specs.Desk.{BookModel}
use Rattle.td_steps.specs.Sees.{Sees, resting}
use Rattle.td_steps.specs.Books.{Call, command, undo, start, finish, arrive, sweep, watch, Does}
use Rattle.td_steps.specs.Calls.{MovesOf, CallsAreSteps, BooksAreSteps}
use Rattle.td_steps.proofs.Parts.{Moved, moved-on}
use Rattle.td_steps.proofs.Commands.{command-moved}
use Rattle.td_steps.proofs.Undos.{undo-moved}
use Rattle.td_steps.proofs.Arrivals.{arrive-moved, sweep-moved}
use Rattle.td_steps.proofs.Watches.{watch-moved}
use Rattle.td_steps.proofs.Builds.{start-moved, finish-moved}
use Rattle.td_steps.proofs.Openings.{openings_are_steps}
use Rattle.td_steps.specs.Openings.{begun}

pub call-moved : (w : WorldView) (c : Call) (old new : BookModel) → Sees w (resting old)
    → Does c old new → Moved old new (MovesOf c old)
call-moved w (command c r) old new sees d = command-moved w c old new r sees d
call-moved w (undo n r) old new sees d = undo-moved w n old new r sees d
call-moved w (start b hand r) old new sees d = start-moved w b hand old new r sees d
call-moved w (finish o before behind r) old new sees d =
    finish-moved w before.hand o before behind old new r sees d
call-moved w (arrive k r) old new sees d = arrive-moved w k old new r sees d
call-moved w (sweep r) old new sees d = sweep-moved w old new r sees d
call-moved w (watch groups given r) old new sees d = watch-moved groups given old new r d

pub calls_are_steps : CallsAreSteps
calls_are_steps w [] old new sees same =
    subst (λ (b : BookModel). Sees w (resting b)) (sym same) sees
calls_are_steps w (c ∷ calls) old new sees d =
    let one = moved-on w old d.0 (MovesOf c old) sees (call-moved w c old d.0 sees d.1) in (
      d.0,
      d.1,
      one.0,
      one.1,
      one.2,
      λ v runs. let led = one.3 v runs in (led.0, led.1, calls_are_steps v calls d.0 new led.1 d.2),
    )

pub books_are_steps : BooksAreSteps
books_are_steps t fixed calls new up none d v runs =
    calls_are_steps v calls (begun (opened t) fixed) new
    ((openings_are_steps t fixed up none).leads v runs).1 d
