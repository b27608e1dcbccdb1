-- `FileDesk::enter_told`: the entry is lawful; what its making comes to.
use Rattle.std.proofs.Common.{[], ◌∷◌, ◌+◌, Bool, None, Ok, Err, Result, length, refl}
use Rattle.std.proofs.Common.{sym, ap, subst, ◌∙◌}
use Rattle.std.specs.String.{string_bytes}
use Rattle.std.proofs.lemmas.Result.{err_from_is_err_and}
use Rattle.td_rows.specs.Table.{AppliesOn}
use Rattle.td_rows.proofs.Appends.{grown_by, grown_by_nothing}
use Rattle.td_journal.specs.declared.entry.Entry.{Entry}
use Rattle.td_core.specs.History.{rows_of}
use Rattle.td_script.specs.Replies.{enters}
use Rattle.td_lasting.specs.declared.chronicle.DeskFault.{DeskFault}
use Rattle.td_lasting.specs.declared.event.Event.TheVariants.{Entered}
use Rattle.td_lasting.specs.DeskView.{DeskView, IsAtRest, IsDone}
use Rattle.td_lasting.specs.inner.Answered.{IsAnswered}
use Rattle.td_lasting.proofs.AnswerLaws.{lacking}
use Rattle.td_lasting.proofs.DeskAfter.{desk_entered}
use Rattle.td_lasting.proofs.Entering.{lawful_other}
use Rattle.td_lasting.proofs.Shown.{entry_answered, entry_failed}
use Rattle.td_lasting.proofs.Sweeping.{enters_these}
use Rattle.td_lasting.proofs.desk.FileDesk.enter_told.Goals as goal

pub returns-in_err-put_taken : goal.returns-in_err-put_taken
returns-in_err-put_taken g c =
    let v = c.args.self.now in
    let before = string_bytes c.args.out.now in
    let now = string_bytes c.put_taken.new.out in
    let e : Entry = record { kind = c.args.kind; keys = c.args.keys } in
    let reply = enters v.history e [] in
    let p = err_from_is_err_and c.from_residual.result c.from_residual.ensures.1 in
    subst (λ (r : Result Bool DeskFault). IsAnswered reply None v v before now r) (sym p.1)
    (lacking reply None v before now p.0 p.2 (subst IsAtRest c.self.view_is c.self.invariant.rest)
    (grown_by_nothing before now c.in_err-put_taken.ensures.err))

pub enter-requires-clause-applies : goal.enter-requires-clause-applies
enter-requires-clause-applies g c =
    subst (λ (v : DeskView). AppliesOn (rows_of v.history) c.args.kind c.args.keys)
    (sym c.self.view_is) c.requires.applies

pub enter-requires-clause-lawful : goal.enter-requires-clause-lawful
enter-requires-clause-lawful g c =
    let e : Entry = record { kind = c.args.kind; keys = c.args.keys } in
    lawful_other (rows_of c.self.inside.chronicle.history) e
    (subst (λ (v : DeskView). AppliesOn (rows_of v.history) c.args.kind c.args.keys)
    (sym c.self.view_is) c.requires.applies)
    c.requires.claim c.requires.other

pub invariant_of-self : goal.invariant_of-self
invariant_of-self g c =
    let e : Entry = record { kind = c.args.kind; keys = c.args.keys } in
    desk_entered {A = Unit {0}} e c.self.inside.chronicle c.enter.new.self c.self.inside.hands
    (Err c.in_err-enter.field-0.0) c.requires.claim
    (ap (λ (w : DeskView). w.stopped) c.self.view_is ∙ c.requires.running) c.self.invariant
    c.enter.ensures.rest c.in_err-enter.ensures.done

pub invariant_of-self-2 : goal.invariant_of-self-2
invariant_of-self-2 g c =
    let e : Entry = record { kind = c.args.kind; keys = c.args.keys } in
    desk_entered {A = Unit {0}} e c.self.inside.chronicle c.enter.new.self c.self.inside.hands
    (Ok tt) c.requires.claim
    (ap (λ (w : DeskView). w.stopped) c.self.view_is ∙ c.requires.running) c.self.invariant
    c.enter.ensures.rest c.in_ok-enter.ensures.done

pub returns-in_err-enter : goal.returns-in_err-enter
returns-in_err-enter g c =
    let v = c.args.self.now in
    let new = c.enter.new.self in
    let before = string_bytes c.args.out.now in
    let now = string_bytes c.put_taken.new.out in
    let e : Entry = record { kind = c.args.kind; keys = c.args.keys } in
    let reply = enters v.history e [] in
    let fault = c.in_err-enter.field-0.0 in
    let p = err_from_is_err_and c.from_residual-in_err-enter.result
    c.from_residual-in_err-enter.ensures.1 in
    subst (λ (r : Result Bool DeskFault). IsAnswered reply None v new before now r)
    (sym (p.1 ∙ ap (λ (f : DeskFault). Err f) p.2))
    (entry_failed reply e [] v new before now fault refl
    (grown_by before now _ c.in_ok-put_taken.ensures.ok)
    (subst (λ (w : DeskView). IsDone {A = Unit {0}} (Entered e ∷ []) w new (Err fault))
    c.self.view_is c.in_err-enter.ensures.done))

pub returns : goal.returns
returns g c =
    let v = c.args.self.now in
    let new = c.enter.new.self in
    let before = string_bytes c.args.out.now in
    let now = string_bytes c.put_taken.new.out in
    let e : Entry = record { kind = c.args.kind; keys = c.args.keys } in
    entry_answered (enters v.history e []) e [] v new before now refl
    (enters_these v.history e c.as_slice.result.now before now c.next.result
    (c.next.ensures ∙ ap (λ (w : DeskView). length w.history.journal + 1) c.self.view_is)
    c.as_slice.ensures.keys c.in_ok-put_taken.ensures.ok)
    (subst (λ (w : DeskView). IsDone {A = Unit {0}} (Entered e ∷ []) w new (Ok tt))
    c.self.view_is c.in_ok-enter.ensures.done)
