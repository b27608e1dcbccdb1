-- `FileDesk::end`: the entry of the end may be made; what its making comes to.
use Rattle.std.proofs.Common.{◌∷◌, ◌++◌, ◌+◌, [], List, Bool, None, Ok, Err, Result, length, refl}
use Rattle.std.proofs.Common.{sym}
use Rattle.std.proofs.Common.{ap, option_map, subst, ◌∙◌}
use Rattle.std.specs.String.{string_bytes}
use Rattle.std.proofs.lemmas.Result.{err_from_is_err_and}
use Rattle.td_rows.specs.declared.kind.Kind.TheVariants as kinds
use Rattle.td_rows.specs.declared.key.Key.{Key}
use Rattle.td_rows.proofs.Appends.{grown_by, grown_by_nothing}
use Rattle.td_journal.specs.declared.entry.Entry.{Entry}
use Rattle.td_core.specs.History.{rows_of}
use Rattle.td_script.specs.Replies.{Reply, entry_made}
use Rattle.td_lasting.specs.declared.chronicle.DeskFault.{DeskFault}
use Rattle.td_lasting.specs.DeskAnswers.{ends}
use Rattle.td_lasting.specs.declared.event.Event.TheVariants.{Entered}
use Rattle.td_lasting.specs.DeskView.{DeskView, IsAtRest, IsDone}
use Rattle.td_lasting.specs.Hands.{held_by}
use Rattle.td_lasting.specs.inner.Answered.{IsAnswered}
use Rattle.td_lasting.proofs.AnswerLaws.{entered, lacking, not_entered}
use Rattle.td_lasting.proofs.BuildLaws.{end_after, has_key}
use Rattle.td_lasting.proofs.Claimable.{rows_rise}
use Rattle.td_lasting.proofs.DeskAfter.{desk_ended, desk_entered}
use Rattle.td_lasting.proofs.Ending.{can_end}
use Rattle.td_lasting.proofs.Shown.{enters_alone}
use Rattle.td_lasting.proofs.desk.FileDesk.end.Goals as goal

pub returns-in_err-put_taken : goal.returns-in_err-put_taken
returns-in_err-put_taken g c =
    let v = c.args.self.now in
    let before = string_bytes c.args.out.now in
    let now = string_bytes c.put_taken.new.out in
    let reply = ends v.history c.args.builder c.args.outcome
    (held_by (rows_of v.history) c.args.builder) in
    let p = err_from_is_err_and c.from_residual.result c.from_residual.ensures.1 in
    subst (λ (r : Result Bool DeskFault). IsAnswered reply None v v before now r) (sym p.1)
    (lacking reply None v before now p.0 p.2 (subst IsAtRest c.self.view_is c.self.invariant.rest)
    (grown_by_nothing before now c.in_err-put_taken.ensures.err))

pub enter-requires-clause-applies : goal.enter-requires-clause-applies
enter-requires-clause-applies g c =
    let h = c.self.inside.chronicle.history in
    let has = has_key (held_by (rows_of h) c.args.builder) c.args.keys
    (ap (λ (w : DeskView). option_map (λ k. k ∷ []) (held_by (rows_of w.history) c.args.builder))
    c.self.view_is ∙ c.requires.held) in
    (can_end h c.args.builder c.args.outcome has.key c.args.keys
    (rows_rise h c.rows-rows.ensures.rising) c.requires.builder has.held has.keys_are
    c.self.invariant.rest.keys).applied

pub enter-requires-clause-lawful : goal.enter-requires-clause-lawful
enter-requires-clause-lawful g c =
    let h = c.self.inside.chronicle.history in
    let has = has_key (held_by (rows_of h) c.args.builder) c.args.keys
    (ap (λ (w : DeskView). option_map (λ k. k ∷ []) (held_by (rows_of w.history) c.args.builder))
    c.self.view_is ∙ c.requires.held) in
    (can_end h c.args.builder c.args.outcome has.key c.args.keys
    (rows_rise h c.rows-rows.ensures.rising) c.requires.builder has.held has.keys_are
    c.self.invariant.rest.keys).lawful

pub enter-requires-clause-line : goal.enter-requires-clause-line
enter-requires-clause-line g c =
    let h = c.self.inside.chronicle.history in
    let has = has_key (held_by (rows_of h) c.args.builder) c.args.keys
    (ap (λ (w : DeskView). option_map (λ k. k ∷ []) (held_by (rows_of w.history) c.args.builder))
    c.self.view_is ∙ c.requires.held) in
    (can_end h c.args.builder c.args.outcome has.key c.args.keys
    (rows_rise h c.rows-rows.ensures.rising) c.requires.builder has.held has.keys_are
    c.self.invariant.rest.keys).line

pub invariant_of-self : goal.invariant_of-self
invariant_of-self g c =
    desk_entered {A = Unit {0}}
    (record { kind = kinds.Outcome c.args.builder c.args.outcome; keys = c.args.keys })
    c.self.inside.chronicle c.enter.new.self c.self.inside.hands (Err c.in_err-enter.field-0.0) refl
    (ap (λ (w : DeskView). w.stopped) c.self.view_is ∙ c.requires.running) c.self.invariant
    c.enter.ensures.rest c.in_err-enter.ensures.done

pub invariant_of-self-2 : goal.invariant_of-self-2
invariant_of-self-2 g c =
    let h = c.self.inside.chronicle.history in
    let has = has_key (held_by (rows_of h) c.args.builder) c.args.keys
    (ap (λ (w : DeskView). option_map (λ k. k ∷ []) (held_by (rows_of w.history) c.args.builder))
    c.self.view_is ∙ c.requires.held) in
    let can = can_end h c.args.builder c.args.outcome has.key c.args.keys
    (rows_rise h c.rows-rows.ensures.rising) c.requires.builder has.held has.keys_are
    c.self.invariant.rest.keys in
    desk_ended c.args.builder c.args.outcome
    (record { kind = kinds.Outcome c.args.builder c.args.outcome; keys = c.args.keys })
    c.self.inside.chronicle c.enter.new.self c.self.inside.hands c.release.new.self refl
    c.rows-rows.ensures.rising c.requires.builder c.as_slice.ensures.some can.applied
    c.release.ensures
    (ap (λ (w : DeskView). w.stopped) c.self.view_is ∙ c.requires.running) c.self.invariant
    c.enter.ensures.rest c.in_ok-enter.ensures.done

pub returns-in_err-enter : goal.returns-in_err-enter
returns-in_err-enter g c =
    let v = c.args.self.now in
    let new = c.enter.new.self in
    let before = string_bytes c.args.out.now in
    let now = string_bytes c.put_taken.new.out in
    let e : Entry =
    record { kind = kinds.Outcome c.args.builder c.args.outcome; keys = c.args.keys }
    in
    let reply = ends v.history c.args.builder c.args.outcome
    (held_by (rows_of v.history) c.args.builder) in
    let is = end_after v.history c.args.builder c.args.outcome c.args.keys c.requires.held in
    let fault = c.in_err-enter.field-0.0 in
    let p = err_from_is_err_and c.from_residual-in_err-enter.result
    c.from_residual-in_err-enter.ensures.1 in
    subst (λ (r : Result Bool DeskFault). IsAnswered reply None v new before now r)
    (sym (p.1 ∙ ap (λ (f : DeskFault). Err f) p.2))
    (not_entered reply None e v new before now fault (ap (λ (r : Reply). r.after) is)
    (grown_by before now _ c.in_ok-put_taken.ensures.ok)
    (subst (λ (w : DeskView). IsDone {A = Unit {0}} (Entered e ∷ []) w new (Err fault))
    c.self.view_is c.in_err-enter.ensures.done))

pub returns : goal.returns
returns g c =
    let v = c.args.self.now in
    let new = c.enter.new.self in
    let before = string_bytes c.args.out.now in
    let now = string_bytes c.put_taken.new.out in
    let e : Entry =
    record { kind = kinds.Outcome c.args.builder c.args.outcome; keys = c.args.keys }
    in
    let reply = ends v.history c.args.builder c.args.outcome
    (held_by (rows_of v.history) c.args.builder) in
    let is = end_after v.history c.args.builder c.args.outcome c.args.keys c.requires.held in
    entered reply None e v new before now (ap (λ (r : Reply). r.after) is)
    (ap (λ (r : Reply). r.refused) is)
    (enters_alone v.history e before now c.next.result
    (c.next.ensures ∙ ap (λ (w : DeskView). length w.history.journal + 1) c.self.view_is)
    (c.in_ok-put_taken.ensures.ok
    ∙ ap (λ (l : List Key). before ++ entry_made c.next.result l) c.as_slice.ensures.keys)
    ∙ ap (λ (r : Reply). before ++ r.text) (sym is))
    (subst (λ (w : DeskView). IsDone {A = Unit {0}} (Entered e ∷ []) w new (Ok tt))
    c.self.view_is c.in_ok-enter.ensures.done)
