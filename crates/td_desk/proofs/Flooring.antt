-- What the calls of builders say of their seats.
use Rattle.std.proofs.Common.{◌≡◌, inl, inr, ℕ, refl, sym, subst}
use Rattle.std.proofs.Common.{Option, Some, None, Result, Ok, Err}
use Rattle.std.specs.Prelude.{IfOk, OnOk, OnErr, OnSome, is_none}
use Rattle.atomic_table.specs.Seated.{TableId}
use Rattle.td_rows.specs.declared.outcome.Outcome.{Outcome}
use Rattle.td_board.specs.declared.views.Hand.{Hand}
use Rattle.td_board.specs.declared.views.Hand.TheVariants.{Free, Holding, Finished}
use Rattle.td_board.specs.Seats.{BuilderModel}
use Rattle.td_board.specs.declared.views.BuilderView.{BuilderView}
use Rattle.td_board.specs.Knowledge.{with_finish}
use Rattle.td_core.specs.History.{rows_of}
use Rattle.td_book.specs.declared.starting.Job.{Job}
use Rattle.td_book.specs.declared.starting.StartRefusal.{StartRefusal}
use Rattle.td_book.specs.declared.finishing.FinishRefusal.{FinishRefusal}
use Rattle.td_book.specs.declared.finishing.FinishRefusal.TheVariants as finishes
use Rattle.td_book.specs.Building.{IsJobAt, StartOutcome}
use Rattle.td_book.specs.Deeds.{code_of}
use Rattle.td_book.specs.Desk.{BookModel}
use Rattle.td_book.specs.Finishing.{FinishHeld, FinishOutcome}
use Rattle.td_book.specs.Ready.{is_any_queued}
use Rattle.td_builder.specs.Floors.{IsHolding, IsFinished, IsRefused}
use Rattle.td_desk.specs.Calls.{IsAtEnd, IsOfDesk, IsToldEnd, Starting, Finishing, MayBreakOff}
use Rattle.td_desk.specs.Calls.{MayEnd, MayStart}
use Rattle.td_desk.specs.Names.{Origin}

by_hand : (table : TableId) (origin : Origin) (b : ℕ) (hand : Hand) (old new : BookModel)
    (job : Job) → IsOfDesk table origin old → StartOutcome b hand old new (Ok job)
    → (r : ℕ) × (m : BookModel) × (hand ≡ Holding r) × IsOfDesk table origin m × IsJobAt r m job
by_hand table origin b (Holding i) old new job of is = (i, old, refl, of, is.1)
by_hand table origin b Free old new job of is = absurd (let e = is.0 in cc)
by_hand table origin b (Finished i c) old new job of is = absurd (let e = is.0 in cc)

pub started : (table : TableId) (origin : Origin) (s : BuilderModel) (r : Result Job StartRefusal)
    → Starting s table origin r → IfOk r (MayStart table origin s)
started table origin s (Ok job) (old, new, of, is) =
    by_hand table origin s.builder.number s.builder.hand old new job of is
started table origin s (Err e) w = tt

same_seat : (s t : BuilderModel) → t.table ≡ s.table → t.builder ≡ s.builder → t ≡ s
same_seat s t at is = (λ j. record { table = at j; builder = is j })

-- the end of a build, by the answer to it
told_end : (table : TableId) (origin : Origin) (o : Outcome) (s t : BuilderModel) (i : ℕ)
    (old new : BookModel) (r : Result ℕ FinishRefusal) → IsOfDesk table origin old
    → s.builder.hand ≡ Holding i → FinishHeld i o s.builder t.builder old new r
    → t.builder ≡ with_finish i (code_of o) s.builder → IsToldEnd table origin s o r
told_end table origin o s t i old new r of hand told is = (
  i,
  old,
  new,
  hand,
  of,
  subst (λ (v : BuilderView). FinishHeld i o s.builder v old new r) is told,
)

ended_seat : (ends : BuilderModel → Outcome → Type 0) (o : Outcome) (s t : BuilderModel) (i : ℕ)
    → ends s o → s.builder.hand ≡ Holding i → t.table ≡ s.table
    → t.builder ≡ with_finish i (code_of o) s.builder → IsFinished ends o s t
ended_seat ends o s t i may hand at is =
    (i, hand, may, (λ j. record { table = at j; builder = is j }))

-- the end of a build does this to a seat that holds a row, by the answer to it
finished_held : (table : TableId) (origin : Origin) (o : Outcome) (s t : BuilderModel) (i : ℕ)
    (old new : BookModel) (r : Result ℕ FinishRefusal) → IsOfDesk table origin old
    → s.builder.hand ≡ Holding i → t.table ≡ s.table
    → FinishHeld i o s.builder t.builder old new r
    → OnOk r (IsFinished (MayEnd table origin) o s t)
finished_held table origin o s t i old new (Ok n) of hand at (f, is) =
    ended_seat (MayEnd table origin) o s t i
    (n, told_end table origin o s t i old new (Ok n) of hand (f, is) is) hand at is
finished_held table origin o s t i old new (Err e) of hand at is = tt

refused_held : (table : TableId) (origin : Origin) (o : Outcome) (s t : BuilderModel) (i : ℕ)
    (old new : BookModel) (r : Result ℕ FinishRefusal) → IsOfDesk table origin old
    → s.builder.hand ≡ Holding i → t.table ≡ s.table
    → FinishHeld i o s.builder t.builder old new r
    → OnErr r (IsRefused (MayBreakOff table origin) o s t)
refused_held table origin o s t i old new (Ok n) of hand at is = tt
refused_held table origin o s t i old new (Err finishes.NoMemory) of hand at (same, is) =
    inl (same_seat s t at is)
refused_held table origin o s t i old new (Err finishes.NothingHeld) of hand at is = absurd is
refused_held table origin o s t i old new (Err finishes.Mismatch) of hand at
    (is, behind, seen, inl was) = inl (same_seat s t at was.2)
refused_held table origin o s t i old new (Err finishes.Mismatch) of hand at
    (is, behind, seen, inr (inl was)) =
    inr (inl (i, hand, (λ j. record { table = at j; builder = was.2 j })))
refused_held table origin o s t i old new (Err finishes.Mismatch) of hand at
    (is, behind, seen, inr (inr was)) =
    inr (inr (ended_seat (MayBreakOff table origin) o s t i (
      finishes.Mismatch,
      told_end table origin o s t i old new (Err finishes.Mismatch) of hand
          (is, behind, seen, inr (inr was)) was.2,
    ) hand at was.2))

pub finished : (table : TableId) (origin : Origin) (o : Outcome) (s t : BuilderModel)
    (r : Result ℕ FinishRefusal) → IsHolding s → t.table ≡ s.table
    → Finishing o s t table origin r → OnOk r (IsFinished (MayEnd table origin) o s t)
finished table origin o s t r (i, hand) at (old, new, of, inl (e, busy, all, same)) =
    subst (λ x. OnOk x (IsFinished (MayEnd table origin) o s t)) (sym e) tt
finished table origin o s t r (i, hand) at (old, new, of, inr is) =
    let f : FinishOutcome (Holding i) o s.builder t.builder old new r =
    subst (λ h. FinishOutcome h o s.builder t.builder old new r) hand is in
    finished_held table origin o s t i old new r of hand at f

pub kept_or_finished : (table : TableId) (origin : Origin) (o : Outcome) (s t : BuilderModel)
    (r : Result ℕ FinishRefusal) → IsHolding s → t.table ≡ s.table
    → Finishing o s t table origin r → OnErr r (IsRefused (MayBreakOff table origin) o s t)
kept_or_finished table origin o s t r (i, hand) at (old, new, of, inl (e, busy, all, same)) =
    subst (λ x. OnErr x (IsRefused (MayBreakOff table origin) o s t)) (sym e)
    (inl (same_seat s t at same))
kept_or_finished table origin o s t r (i, hand) at (old, new, of, inr is) =
    let f : FinishOutcome (Holding i) o s.builder t.builder old new r =
    subst (λ h. FinishOutcome h o s.builder t.builder old new r) hand is in
    refused_held table origin o s t i old new r of hand at f

-- a builder who gets what it goes home with has seen the end
pub at_end : {A : Type 0} (table : TableId) (origin : Origin) (home : Option A)
    → (book : BookModel) × IsOfDesk table origin book
    × (is_none home ≡ is_any_queued (rows_of book.history))
    → OnSome home (IsAtEnd table origin)
at_end table origin None seen = tt
at_end table origin (Some home) (book, of, is) = (book, of, sym is)
