-- `Turns::finish`: an end that the desk refused; this floor says nothing more of it.
use Rattle.std.proofs.Common.{OnErr, Result, Ok, Err, inl, inr, subst, sym, ℕ}
use Rattle.td_rows.specs.declared.outcome.Outcome.{Outcome}
use Rattle.td_board.specs.Seats.{BuilderModel}
use Rattle.td_book.specs.declared.finishing.FinishRefusal.{FinishRefusal}
use Rattle.td_builder.specs.Floors.{IsRefused}
use Rattle.td_desk.specs.Calls.{MayBreakOff}
use Rattle.td_desk_tests.proofs.turns.TurnsFloor.finish.Goals as goal

refused_so : (P : BuilderModel → Outcome → Type 0) (o : Outcome) (a b : BuilderModel)
    → IsRefused P o a b → IsRefused (λ seat outcome. Unit {0}) o a b
refused_so P o a b (inl same) = inl same
refused_so P o a b (inr (inl early)) = inr (inl early)
refused_so P o a b (inr (inr (r, held, ends, is))) = inr (inr (r, held, tt, is))

on_refusal : {A E : Type 0} (r : Result A E) (P : BuilderModel → Outcome → Type 0) (o : Outcome)
    (a b : BuilderModel) → OnErr r (IsRefused P o a b)
    → OnErr r (IsRefused (λ seat outcome. Unit {0}) o a b)
on_refusal (Ok x) P o a b h = tt
on_refusal (Err e) P o a b h = refused_so P o a b h

pub returns-in_default-2-clause-seat : goal.returns-in_default-2-clause-seat
returns-in_default-2-clause-seat g c =
    on_refusal c.answer.result (MayBreakOff g.N.Named.table g.N.Named.origin) c.args.outcome
    c.args.seat.now c.finish.new.seat
    (subst (λ (r : Result ℕ FinishRefusal). OnErr r (IsRefused
    (MayBreakOff g.N.Named.table g.N.Named.origin) c.args.outcome c.args.seat.now
    c.finish.new.seat)) (sym c.answer.ensures) c.finish.ensures.seat)
