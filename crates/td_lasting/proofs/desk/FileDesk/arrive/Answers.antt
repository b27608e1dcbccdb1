-- `FileDesk::arrive`: an arrival that is refused, and one that is entered or fails.
use Rattle.std.proofs.Common.{◌≡◌, [], ◌∷◌, ◌+◌, Bool, None, Some, Ok, Err, Result}
use Rattle.std.proofs.Common.{length, refl, sym, ap, subst, ◌∙◌}
use Rattle.std.specs.String.{string_bytes}
use Rattle.std.proofs.lemmas.Result.{err_from_is_err_and}
use Rattle.td_rows.specs.declared.kind.Kind.TheVariants as kinds
use Rattle.td_rows.specs.Table.{Table, row_of}
use Rattle.td_rows.proofs.Appends.{grown_by, grown_by_nothing}
use Rattle.td_journal.specs.declared.entry.Entry.{Entry}
use Rattle.td_core.specs.History.{rows_of}
use Rattle.td_script.specs.Replies.{arrives}
use Rattle.td_lasting.specs.declared.chronicle.DeskFault.{DeskFault}
use Rattle.td_lasting.specs.declared.event.Event.TheVariants.{Entered}
use Rattle.td_lasting.specs.DeskView.{DeskView, IsAtRest, IsDone}
use Rattle.td_lasting.specs.inner.Answered.{IsAnswered}
use Rattle.td_book.specs.Arriving.{ArrivalStop}
use Rattle.td_lasting.proofs.AnswerLaws.{lacking}
use Rattle.td_lasting.proofs.DeskAfter.{desk_entered}
use Rattle.td_lasting.proofs.Shown.{arrival_refused, arrives_made, entry_answered, entry_failed}
use Rattle.td_lasting.proofs.Sweeping.{can_arrive, enters_these}
use Rattle.td_lasting.proofs.desk.FileDesk.arrive.Goals as goal

pub returns-in_err-keys-in-Ok : goal.returns-in_err-keys-in-Ok
returns-in_err-keys-in-Ok g c =
    let v = c.args.self.now in
    let text = string_bytes c.args.out.now in
    let k = c.args.key.now in
    let reply = arrives v.history k (row_of (rows_of v.history) k) in
    let p = err_from_is_err_and c.from_residual.result c.from_residual.ensures.1 in
    subst (λ (r : Result Bool DeskFault). IsAnswered reply None v v text text r) (sym p.1)
    (lacking reply None v text text p.0 p.2 (subst IsAtRest c.self.view_is c.self.invariant.rest)
    (grown_by_nothing text text refl))

pub returns-in_err-put_taken-in-Ok : goal.returns-in_err-put_taken-in-Ok
returns-in_err-put_taken-in-Ok g c =
    let v = c.args.self.now in
    let before = string_bytes c.args.out.now in
    let now = string_bytes c.put_taken.new.out in
    let k = c.args.key.now in
    let reply = arrives v.history k (row_of (rows_of v.history) k) in
    let p = err_from_is_err_and c.from_residual-in_err-put_taken-in-Ok.result
    c.from_residual-in_err-put_taken-in-Ok.ensures.1 in
    subst (λ (r : Result Bool DeskFault). IsAnswered reply None v v before now r) (sym p.1)
    (lacking reply None v before now p.0 p.2 (subst IsAtRest c.self.view_is c.self.invariant.rest)
    (grown_by_nothing before now c.in_err-put_taken-in-Ok.ensures.err))

pub enter_arrival-requires-clause-applies : goal.enter_arrival-requires-clause-applies
enter_arrival-requires-clause-applies g c =
    let h = c.self.inside.chronicle.history in
    let k = c.args.key.now in
    (can_arrive h k c.in-Ok.row.now
    (ap (λ (t : Table). row_of t k) (sym c.rows.ensures.rows) ∙ c.in-Ok.ensures.ok.0)
    c.in-Ok.ensures.ok.1 c.self.invariant.rest.keys).applied

pub enter_arrival-requires-clause-number : goal.enter_arrival-requires-clause-number
enter_arrival-requires-clause-number g c =
    let h = c.self.inside.chronicle.history in
    let k = c.args.key.now in
    (can_arrive h k c.in-Ok.row.now
    (ap (λ (t : Table). row_of t k) (sym c.rows.ensures.rows) ∙ c.in-Ok.ensures.ok.0)
    c.in-Ok.ensures.ok.1 c.self.invariant.rest.keys).number_is

pub enter_arrival-requires-clause-line : goal.enter_arrival-requires-clause-line
enter_arrival-requires-clause-line g c =
    let h = c.self.inside.chronicle.history in
    let k = c.args.key.now in
    (can_arrive h k c.in-Ok.row.now
    (ap (λ (t : Table). row_of t k) (sym c.rows.ensures.rows) ∙ c.in-Ok.ensures.ok.0)
    c.in-Ok.ensures.ok.1 c.self.invariant.rest.keys).line

pub invariant_of-self : goal.invariant_of-self
invariant_of-self g c =
    let e : Entry = record { kind = kinds.Arrive; keys = c.args.key.now ∷ [] } in
    desk_entered {A = Unit {0}} e c.self.inside.chronicle c.enter_arrival.new.self
    c.self.inside.hands (Err c.in_err-enter_arrival-in-Ok.field-0.0) refl
    (ap (λ (w : DeskView). w.stopped) c.self.view_is ∙ c.requires.running) c.self.invariant
    c.enter_arrival.ensures.rest c.in_err-enter_arrival-in-Ok.ensures.done

pub invariant_of-self-in-Ok : goal.invariant_of-self-in-Ok
invariant_of-self-in-Ok g c =
    let e : Entry = record { kind = kinds.Arrive; keys = c.args.key.now ∷ [] } in
    desk_entered {A = Unit {0}} e c.self.inside.chronicle c.enter_arrival.new.self
    c.self.inside.hands (Ok tt) refl
    (ap (λ (w : DeskView). w.stopped) c.self.view_is ∙ c.requires.running) c.self.invariant
    c.enter_arrival.ensures.rest c.in_ok-enter_arrival-in-Ok.ensures.done

pub returns-in_err-enter_arrival-in-Ok : goal.returns-in_err-enter_arrival-in-Ok
returns-in_err-enter_arrival-in-Ok g c =
    let v = c.args.self.now in
    let new = c.enter_arrival.new.self in
    let k = c.args.key.now in
    let before = string_bytes c.args.out.now in
    let now = string_bytes c.put_taken.new.out in
    let e : Entry = record { kind = kinds.Arrive; keys = k ∷ [] } in
    let reply = arrives v.history k (row_of (rows_of v.history) k) in
    let rows = c.rows.ensures.rows ∙ ap (λ (w : DeskView). rows_of w.history) c.self.view_is in
    let found : row_of (rows_of v.history) k ≡ Some c.in-Ok.row.now =
    ap (λ (t : Table). row_of t k) (sym rows) ∙ c.in-Ok.ensures.ok.0 in
    let fault = c.in_err-enter_arrival-in-Ok.field-0.0 in
    let p = err_from_is_err_and c.from_residual-in_err-enter_arrival-in-Ok.result
    c.from_residual-in_err-enter_arrival-in-Ok.ensures.1 in
    subst (λ (r : Result Bool DeskFault). IsAnswered reply None v new before now r)
    (sym (p.1 ∙ ap (λ (f : DeskFault). Err f) p.2))
    (entry_failed reply e [] v new before now fault
    (arrives_made v.history k c.in-Ok.row.now found c.in-Ok.ensures.ok.1)
    (grown_by before now _ c.in_ok-put_taken-in-Ok.ensures.ok)
    (subst (λ (w : DeskView). IsDone {A = Unit {0}} (Entered e ∷ []) w new (Err fault))
    c.self.view_is c.in_err-enter_arrival-in-Ok.ensures.done))

pub returns-in_ok-enter_arrival-in-Ok : goal.returns-in_ok-enter_arrival-in-Ok
returns-in_ok-enter_arrival-in-Ok g c =
    let v = c.args.self.now in
    let new = c.enter_arrival.new.self in
    let k = c.args.key.now in
    let before = string_bytes c.args.out.now in
    let now = string_bytes c.put_taken.new.out in
    let e : Entry = record { kind = kinds.Arrive; keys = k ∷ [] } in
    let reply = arrives v.history k (row_of (rows_of v.history) k) in
    let rows = c.rows.ensures.rows ∙ ap (λ (w : DeskView). rows_of w.history) c.self.view_is in
    let found : row_of (rows_of v.history) k ≡ Some c.in-Ok.row.now =
    ap (λ (t : Table). row_of t k) (sym rows) ∙ c.in-Ok.ensures.ok.0 in
    entry_answered reply e [] v new before now
    (arrives_made v.history k c.in-Ok.row.now found c.in-Ok.ensures.ok.1)
    (enters_these v.history e c.as_slice.result.now before now c.next.result
    (c.next.ensures ∙ ap (λ (w : DeskView). length w.history.journal + 1) c.self.view_is)
    (c.as_slice.ensures.keys ∙ c.in_ok-keys-in-Ok.ensures) c.in_ok-put_taken-in-Ok.ensures.ok)
    (subst (λ (w : DeskView). IsDone {A = Unit {0}} (Entered e ∷ []) w new (Ok tt))
    c.self.view_is c.in_ok-enter_arrival-in-Ok.ensures.done)

pub returns-in_err-put_arrival_refusal-in-Err : goal.returns-in_err-put_arrival_refusal-in-Err
returns-in_err-put_arrival_refusal-in-Err g c =
    let v = c.args.self.now in
    let before = string_bytes c.args.out.now in
    let now = string_bytes c.put_arrival_refusal.new.out in
    let k = c.args.key.now in
    let reply = arrives v.history k (row_of (rows_of v.history) k) in
    let p = err_from_is_err_and c.from_residual-in_err-put_arrival_refusal-in-Err.result
    c.from_residual-in_err-put_arrival_refusal-in-Err.ensures.1 in
    subst (λ (r : Result Bool DeskFault). IsAnswered reply None v v before now r) (sym p.1)
    (lacking reply None v before now p.0 p.2 (subst IsAtRest c.self.view_is c.self.invariant.rest)
    (grown_by_nothing before now c.in_err-put_arrival_refusal-in-Err.ensures.err))

pub returns-in_ok-put_arrival_refusal-in-Err : goal.returns-in_ok-put_arrival_refusal-in-Err
returns-in_ok-put_arrival_refusal-in-Err g c =
    let v = c.args.self.now in
    let k = c.args.key.now in
    let rows = c.rows.ensures.rows ∙ ap (λ (w : DeskView). rows_of w.history) c.self.view_is in
    arrival_refused v k c.in-Err.refusal (string_bytes c.args.out.now)
    (string_bytes c.put_arrival_refusal.new.out) c.in_ok-put_arrival_refusal-in-Err.field-0
    (subst IsAtRest c.self.view_is c.self.invariant.rest) c.requires.running
    (subst (λ (t : Table). ArrivalStop k t c.in-Err.refusal) rows c.in-Err.ensures.err)
    c.in_ok-put_arrival_refusal-in-Err.ensures.ok
