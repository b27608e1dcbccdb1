-- `FileDesk::undo`: an undo that is refused, and one that is done or fails.
use Rattle.std.proofs.Common.{◌≡◌, Bool, List, [], ◌∷◌, Option, None, Some, Ok, Err, Result}
use Rattle.std.proofs.Common.{is_none, sym, ap, subst, ◌∙◌}
use Rattle.std.specs.String.{string_bytes}
use Rattle.std.proofs.lemmas.Result.{err_from_is_err_and}
use Rattle.td_rows.proofs.Appends.{grown_by, grown_by_nothing}
use Rattle.td_journal.specs.declared.entry.Marked.{Marked}
use Rattle.td_journal.specs.Entries.{CanBeUndone}
use Rattle.td_journal.specs.Touching.{blocker}
use Rattle.td_book.specs.declared.undoing.UndoRefusal.{UndoRefusal}
use Rattle.td_book.specs.Undoing.{undo_stop}
use Rattle.td_script.specs.Replies.{undoes}
use Rattle.td_lasting.specs.declared.chronicle.DeskFault.{DeskFault}
use Rattle.td_lasting.specs.declared.event.Event.TheVariants.{Undone}
use Rattle.td_lasting.specs.DeskView.{DeskView, IsAtRest, IsDone}
use Rattle.td_lasting.specs.inner.Answered.{IsAnswered}
use Rattle.td_lasting.proofs.AnswerLaws.{lacking}
use Rattle.td_lasting.proofs.DeskAfter.{desk_undone}
use Rattle.td_lasting.proofs.Shown.{undo_answered, undo_failed, undo_refused}
use Rattle.td_lasting.proofs.desk.FileDesk.undo.Goals as goal

pub undo-requires-clause-stands : goal.undo-requires-clause-stands
undo-requires-clause-stands g c =
    subst (λ (ms : List Marked). CanBeUndone ms c.args.n) c.journal.ensures
    c.in-None.ensures.stands

pub undo-requires-clause-free : goal.undo-requires-clause-free
undo-requires-clause-free g c =
    subst (λ (ms : List Marked). blocker ms c.args.n ≡ None) c.journal.ensures
    c.in-None.ensures.free

pub returns-in_err-put_undo-in-Some : goal.returns-in_err-put_undo-in-Some
returns-in_err-put_undo-in-Some g c =
    let v = c.args.self.now in
    let n = c.args.n in
    let before = string_bytes c.args.out.now in
    let now = string_bytes c.put_undo.new.out in
    let reply = undoes v.history n (undo_stop v.history.journal n) in
    let p = err_from_is_err_and c.from_residual.result c.from_residual.ensures.1 in
    subst (λ (r : Result Bool DeskFault). IsAnswered reply (Some n) v v before now r) (sym p.1)
    (lacking reply (Some n) v before now p.0 p.2
    (subst IsAtRest c.self.view_is c.self.invariant.rest)
    (grown_by_nothing before now c.in_err-put_undo-in-Some.ensures.err))

pub returns-in_ok-put_undo-in-Some : goal.returns-in_ok-put_undo-in-Some
returns-in_ok-put_undo-in-Some g c =
    let v = c.args.self.now in
    let n = c.args.n in
    let r = c.in-Some.refusal in
    undo_refused v n r (string_bytes c.args.out.now) (string_bytes c.put_undo.new.out)
    c.in_ok-put_undo-in-Some.field-0 (subst IsAtRest c.self.view_is c.self.invariant.rest)
    c.requires.running
    (sym (c.in-Some.ensures.stop
    ∙ ap (λ (ms : List Marked). undo_stop ms n) c.journal.ensures
    ∙ ap (λ (w : DeskView). undo_stop w.history.journal n) c.self.view_is))
    c.in_ok-put_undo-in-Some.ensures.ok

pub returns-in_err-put_undo-in-None : goal.returns-in_err-put_undo-in-None
returns-in_err-put_undo-in-None g c =
    let v = c.args.self.now in
    let n = c.args.n in
    let before = string_bytes c.args.out.now in
    let now = string_bytes c.put_undo-in-None.new.out in
    let reply = undoes v.history n (undo_stop v.history.journal n) in
    let p = err_from_is_err_and c.from_residual-in_err-put_undo-in-None.result
    c.from_residual-in_err-put_undo-in-None.ensures.1 in
    subst (λ (r : Result Bool DeskFault). IsAnswered reply (Some n) v v before now r) (sym p.1)
    (lacking reply (Some n) v before now p.0 p.2
    (subst IsAtRest c.self.view_is c.self.invariant.rest)
    (grown_by_nothing before now c.in_err-put_undo-in-None.ensures.err))

pub invariant_of-self : goal.invariant_of-self
invariant_of-self g c =
    let n = c.args.n in
    let inside = c.self.inside.chronicle in
    let stop : undo_stop inside.history.journal n ≡ None =
    sym (c.in-None.ensures.stop ∙ ap (λ (ms : List Marked). undo_stop ms n) c.journal.ensures) in
    desk_undone {A = Unit {0}} n inside c.undo.new.self c.self.inside.hands
    (Err c.in_err-undo-in-None.field-0.0) c.rows-rows.ensures.lawful c.rows-rows.ensures.rising
    (ap (λ (o : Option UndoRefusal). is_none o) stop)
    (ap (λ (w : DeskView). w.stopped) c.self.view_is ∙ c.requires.running) c.self.invariant
    c.undo.ensures.rest c.in_err-undo-in-None.ensures.done

pub invariant_of-self-in-None : goal.invariant_of-self-in-None
invariant_of-self-in-None g c =
    let n = c.args.n in
    let inside = c.self.inside.chronicle in
    let stop : undo_stop inside.history.journal n ≡ None =
    sym (c.in-None.ensures.stop ∙ ap (λ (ms : List Marked). undo_stop ms n) c.journal.ensures) in
    desk_undone {A = Unit {0}} n inside c.undo.new.self c.self.inside.hands
    (Ok tt) c.rows-rows.ensures.lawful c.rows-rows.ensures.rising
    (ap (λ (o : Option UndoRefusal). is_none o) stop)
    (ap (λ (w : DeskView). w.stopped) c.self.view_is ∙ c.requires.running) c.self.invariant
    c.undo.ensures.rest c.in_ok-undo-in-None.ensures.done

pub returns-in_err-undo-in-None : goal.returns-in_err-undo-in-None
returns-in_err-undo-in-None g c =
    let v = c.args.self.now in
    let new = c.undo.new.self in
    let n = c.args.n in
    let before = string_bytes c.args.out.now in
    let now = string_bytes c.put_undo-in-None.new.out in
    let reply = undoes v.history n (undo_stop v.history.journal n) in
    let stop : undo_stop v.history.journal n ≡ None =
    sym (c.in-None.ensures.stop
    ∙ ap (λ (ms : List Marked). undo_stop ms n) c.journal.ensures
    ∙ ap (λ (w : DeskView). undo_stop w.history.journal n) c.self.view_is) in
    let fault = c.in_err-undo-in-None.field-0.0 in
    let p = err_from_is_err_and c.from_residual-in_err-undo-in-None.result
    c.from_residual-in_err-undo-in-None.ensures.1 in
    subst (λ (r : Result Bool DeskFault). IsAnswered reply (Some n) v new before now r)
    (sym (p.1 ∙ ap (λ (f : DeskFault). Err f) p.2))
    (undo_failed v new n before now fault stop
    (grown_by before now _ c.in_ok-put_undo-in-None.ensures.ok.text_is)
    (subst (λ (w : DeskView). IsDone {A = Unit {0}} (Undone n ∷ []) w new (Err fault))
    c.self.view_is c.in_err-undo-in-None.ensures.done))

pub returns-in_ok-undo-in-None : goal.returns-in_ok-undo-in-None
returns-in_ok-undo-in-None g c =
    let v = c.args.self.now in
    let new = c.undo.new.self in
    let n = c.args.n in
    let stop : undo_stop v.history.journal n ≡ None =
    sym (c.in-None.ensures.stop
    ∙ ap (λ (ms : List Marked). undo_stop ms n) c.journal.ensures
    ∙ ap (λ (w : DeskView). undo_stop w.history.journal n) c.self.view_is) in
    undo_answered v new n (string_bytes c.args.out.now)
    (string_bytes c.put_undo-in-None.new.out) stop c.in_ok-put_undo-in-None.ensures.ok.text_is
    (subst (λ (w : DeskView). IsDone {A = Unit {0}} (Undone n ∷ []) w new (Ok tt))
    c.self.view_is c.in_ok-undo-in-None.ensures.done)
