-- `FileDesk::command`: the entry of what was looked up may be made; what its making comes to.
use Rattle.std.proofs.Common.{◌≡◌, false, Bool, None, Ok, Err, Result, length, refl}
use Rattle.std.proofs.Common.{sym, ap, subst, ◌∙◌, arith}
use Rattle.std.specs.String.{string_bytes}
use Rattle.std.proofs.lemmas.Bool.Decides.{nat_tests}
use Rattle.std.proofs.lemmas.Result.{err_from_is_err_and}
use Rattle.td_rows.proofs.Appends.{grown_by, grown_by_nothing}
use Rattle.td_wbread.specs.Views.{parts_of}
use Rattle.td_script.specs.Replies.{commands}
use Rattle.td_lasting.specs.declared.chronicle.DeskFault.{DeskFault}
use Rattle.td_lasting.specs.DeskView.{DeskView, IsAtRest}
use Rattle.td_lasting.specs.inner.Answered.{IsAnswered}
use Rattle.td_lasting.proofs.Claimable.{rows_rise}
use Rattle.td_lasting.proofs.CommandAnswers.{can_enter, command_answered, command_failed}
use Rattle.td_lasting.proofs.CommandAnswers.{command_stopped, command_text, keys_rise, looked_up}
use Rattle.td_lasting.proofs.CommandAnswers.{no_keys}
use Rattle.td_lasting.proofs.Commanding.{command_kind}
use Rattle.td_lasting.proofs.DeskAfter.{desk_entered}
use Rattle.td_lasting.proofs.LineAnswers.{lacks}
use Rattle.td_lasting.proofs.desk.FileDesk.command.Goals as goal

pub returns-in_err-kind : goal.returns-in_err-kind
returns-in_err-kind g c =
    let before = string_bytes c.args.out.now in
    lacks _ _ _ _ _ _ (subst IsAtRest c.self.view_is c.self.invariant.rest)
    (grown_by_nothing before before refl)
    (err_from_is_err_and c.from_residual.result c.from_residual.ensures.1)

pub returns-then-is_empty : goal.returns-then-is_empty
returns-then-is_empty g c =
    let v = c.self.inside.chronicle in
    let before = string_bytes c.args.out.now in
    let now = string_bytes c.put_command_refusal.new.out in
    let refused = c.in_ok-put_command_refusal.field-0 in
    let parts = parts_of c.args.command.now in
    let found = c.in_ok-kind.field-0 in
    let looked = looked_up v.stock c.books.result.now.stock v.history c.books.result.now.history
    parts found.kind found.keys.items found.skips c.books.ensures.stock c.books.ensures.history
    c.in_ok-kind.ensures.kind c.in_ok-kind.ensures.keys c.in_ok-kind.ensures.skips in
    let none : length found.keys.items ≡ 0 = grind (arith, nat_tests) in
    subst (λ (w : DeskView).
    IsAnswered (commands w.stock w.history parts) None w w before now (Ok refused)) c.self.view_is
    (command_stopped parts v found.kind found.keys.items found.skips before now refused
    c.self.invariant.rest (ap (λ (w : DeskView). w.stopped) c.self.view_is ∙ c.requires.running)
    looked (no_keys found.keys.items none) c.in_ok-put_command_refusal.ensures.ok)

pub new-keys-requires-clause-rising : goal.new-keys-requires-clause-rising
new-keys-requires-clause-rising g c =
    let v = c.self.inside.chronicle in
    let parts = parts_of c.args.command.now in
    let found = c.in_ok-kind.field-0 in
    let looked = looked_up v.stock c.books.result.now.stock v.history c.books.result.now.history
    parts found.kind found.keys.items found.skips c.books.ensures.stock c.books.ensures.history
    c.in_ok-kind.ensures.kind c.in_ok-kind.ensures.keys c.in_ok-kind.ensures.skips in
    keys_rise v.stock v.history parts found.kind found.keys.items found.skips looked
    (rows_rise v.history c.rows-rows.ensures.rising)

pub returns-in_err-put_taken : goal.returns-in_err-put_taken
returns-in_err-put_taken g c =
    lacks _ _ _ _ _ _ (subst IsAtRest c.self.view_is c.self.invariant.rest)
    (grown_by_nothing (string_bytes c.args.out.now) (string_bytes c.put_taken.new.out)
    c.in_err-put_taken.ensures.err)
    (err_from_is_err_and c.from_residual-in_err-put_taken.result
    c.from_residual-in_err-put_taken.ensures.1)

pub returns-in_err-put_skips : goal.returns-in_err-put_skips
returns-in_err-put_skips g c =
    lacks _ _ _ _ _ _ (subst IsAtRest c.self.view_is c.self.invariant.rest)
    (grown_by (string_bytes c.args.out.now) (string_bytes c.put_skips.new.out) _
    (c.in_err-put_skips.ensures.err ∙ c.in_ok-put_taken.ensures.ok))
    (err_from_is_err_and c.from_residual-in_err-put_skips.result
    c.from_residual-in_err-put_skips.ensures.1)

pub enter-requires-clause-applies : goal.enter-requires-clause-applies
enter-requires-clause-applies g c =
    let v = c.self.inside.chronicle in
    let parts = parts_of c.args.command.now in
    let found = c.in_ok-kind.field-0 in
    let keys = c.new-keys.result in
    let looked = looked_up v.stock c.books.result.now.stock v.history c.books.result.now.history
    parts found.kind keys found.skips c.books.ensures.stock c.books.ensures.history
    c.in_ok-kind.ensures.kind (c.new-keys.ensures ∙ c.in_ok-kind.ensures.keys)
    c.in_ok-kind.ensures.skips in
    (can_enter v.stock v.history parts found.kind keys found.skips looked
    (rows_rise v.history c.rows-rows.ensures.rising) c.as_slice.ensures.some
    c.read_kind.ensures.numbers c.read_kind.ensures.texts c.self.invariant.rest.keys).applied

pub enter-requires-clause-lawful : goal.enter-requires-clause-lawful
enter-requires-clause-lawful g c =
    let v = c.self.inside.chronicle in
    let parts = parts_of c.args.command.now in
    let found = c.in_ok-kind.field-0 in
    let keys = c.new-keys.result in
    let looked = looked_up v.stock c.books.result.now.stock v.history c.books.result.now.history
    parts found.kind keys found.skips c.books.ensures.stock c.books.ensures.history
    c.in_ok-kind.ensures.kind (c.new-keys.ensures ∙ c.in_ok-kind.ensures.keys)
    c.in_ok-kind.ensures.skips in
    (can_enter v.stock v.history parts found.kind keys found.skips looked
    (rows_rise v.history c.rows-rows.ensures.rising) c.as_slice.ensures.some
    c.read_kind.ensures.numbers c.read_kind.ensures.texts c.self.invariant.rest.keys).lawful

pub enter-requires-clause-line : goal.enter-requires-clause-line
enter-requires-clause-line g c =
    let v = c.self.inside.chronicle in
    let parts = parts_of c.args.command.now in
    let found = c.in_ok-kind.field-0 in
    let keys = c.new-keys.result in
    let looked = looked_up v.stock c.books.result.now.stock v.history c.books.result.now.history
    parts found.kind keys found.skips c.books.ensures.stock c.books.ensures.history
    c.in_ok-kind.ensures.kind (c.new-keys.ensures ∙ c.in_ok-kind.ensures.keys)
    c.in_ok-kind.ensures.skips in
    (can_enter v.stock v.history parts found.kind keys found.skips looked
    (rows_rise v.history c.rows-rows.ensures.rising) c.as_slice.ensures.some
    c.read_kind.ensures.numbers c.read_kind.ensures.texts c.self.invariant.rest.keys).line

pub invariant_of-self : goal.invariant_of-self
invariant_of-self g c =
    let kind = c.in_ok-kind.field-0.kind in
    desk_entered {A = Unit {0}} (record { kind = kind; keys = c.new-keys.result })
    c.self.inside.chronicle c.enter.new.self c.self.inside.hands (Err c.in_err-enter.field-0.0)
    (command_kind (parts_of c.args.command.now) kind c.in_ok-kind.ensures.kind
    c.read_kind.ensures.numbers).no_claim
    (ap (λ (w : DeskView). w.stopped) c.self.view_is ∙ c.requires.running) c.self.invariant
    c.enter.ensures.rest c.in_err-enter.ensures.done

pub invariant_of-self-2 : goal.invariant_of-self-2
invariant_of-self-2 g c =
    let kind = c.in_ok-kind.field-0.kind in
    desk_entered {A = Unit {0}} (record { kind = kind; keys = c.new-keys.result })
    c.self.inside.chronicle c.enter.new.self c.self.inside.hands (Ok tt)
    (command_kind (parts_of c.args.command.now) kind c.in_ok-kind.ensures.kind
    c.read_kind.ensures.numbers).no_claim
    (ap (λ (w : DeskView). w.stopped) c.self.view_is ∙ c.requires.running) c.self.invariant
    c.enter.ensures.rest c.in_ok-enter.ensures.done

pub returns-in_err-enter : goal.returns-in_err-enter
returns-in_err-enter g c =
    let v = c.self.inside.chronicle in
    let new = c.enter.new.self in
    let before = string_bytes c.args.out.now in
    let now = string_bytes c.put_skips.new.out in
    let parts = parts_of c.args.command.now in
    let found = c.in_ok-kind.field-0 in
    let keys = c.new-keys.result in
    let looked = looked_up v.stock c.books.result.now.stock v.history c.books.result.now.history
    parts found.kind keys found.skips c.books.ensures.stock c.books.ensures.history
    c.in_ok-kind.ensures.kind (c.new-keys.ensures ∙ c.in_ok-kind.ensures.keys)
    c.in_ok-kind.ensures.skips in
    let fault = c.in_err-enter.field-0.0 in
    let text = command_text before (string_bytes c.put_taken.new.out) now c.next.result keys
    c.as_slice.result.now found.skips c.as_slice-2.result.now c.as_slice.ensures.keys
    c.as_slice-2.ensures c.in_ok-put_taken.ensures.ok c.in_ok-put_skips.ensures.ok in
    let p = err_from_is_err_and c.from_residual-in_err-enter.result
    c.from_residual-in_err-enter.ensures.1 in
    subst (λ (r : Result Bool DeskFault).
    IsAnswered (commands c.args.self.now.stock c.args.self.now.history parts) None c.args.self.now
    new before now r) (sym (p.1 ∙ ap (λ (f : DeskFault). Err f) p.2))
    (subst (λ (w : DeskView).
    IsAnswered (commands w.stock w.history parts) None w new before now (Err fault)) c.self.view_is
    (command_failed parts v new found.kind keys found.skips before now fault looked
    c.as_slice.ensures.some (grown_by before now _ text) c.in_err-enter.ensures.done))

pub returns : goal.returns
returns g c =
    let v = c.self.inside.chronicle in
    let new = c.enter.new.self in
    let before = string_bytes c.args.out.now in
    let now = string_bytes c.put_skips.new.out in
    let parts = parts_of c.args.command.now in
    let found = c.in_ok-kind.field-0 in
    let keys = c.new-keys.result in
    let looked = looked_up v.stock c.books.result.now.stock v.history c.books.result.now.history
    parts found.kind keys found.skips c.books.ensures.stock c.books.ensures.history
    c.in_ok-kind.ensures.kind (c.new-keys.ensures ∙ c.in_ok-kind.ensures.keys)
    c.in_ok-kind.ensures.skips in
    let text = command_text before (string_bytes c.put_taken.new.out) now c.next.result keys
    c.as_slice.result.now found.skips c.as_slice-2.result.now c.as_slice.ensures.keys
    c.as_slice-2.ensures c.in_ok-put_taken.ensures.ok c.in_ok-put_skips.ensures.ok in
    subst (λ (w : DeskView).
    IsAnswered (commands w.stock w.history parts) None w new before now (Ok false)) c.self.view_is
    (command_answered parts v new found.kind keys found.skips before now c.next.result looked
    c.as_slice.ensures.some c.next.ensures text c.in_ok-enter.ensures.done)
