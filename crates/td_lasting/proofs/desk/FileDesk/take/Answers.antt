-- `FileDesk::take`: the entry of the claim may be made; what its making comes to.
use Rattle.std.proofs.Common.{Bool, None, Ok, Err, Result, refl, sym, ap, subst, ◌∙◌}
use Rattle.std.specs.String.{string_bytes}
use Rattle.std.proofs.lemmas.Result.{err_from_is_err_and}
use Rattle.td_rows.specs.Table.{row_of}
use Rattle.td_core.specs.History.{rows_of}
use Rattle.td_lasting.specs.declared.chronicle.DeskFault.{DeskFault}
use Rattle.td_lasting.specs.DeskAnswers.{claims}
use Rattle.td_lasting.specs.DeskView.{DeskView, IsAtRest}
use Rattle.td_lasting.specs.inner.Answered.{IsAnswered}
use Rattle.td_lasting.proofs.AnswerLaws.{lacking}
use Rattle.td_lasting.proofs.BuildLaws.{claim_answered, claim_failed}
use Rattle.td_lasting.proofs.Claiming.{can_claim, claim_at, claim_done, claimable_inside}
use Rattle.td_lasting.proofs.DeskAfter.{desk_claimed}
use Rattle.td_lasting.proofs.desk.FileDesk.take.Goals as goal

pub returns-in_err-tell_builds : goal.returns-in_err-tell_builds
returns-in_err-tell_builds g c = λ s same.
    let v = c.args.self.now in
    let before = string_bytes c.args.out.now in
    let now = string_bytes c.tell_builds.new.out in
    let reply = claims s v.history c.args.builder c.args.key.now
    (row_of (rows_of v.history) c.args.key.now) in
    let p = err_from_is_err_and c.from_residual.result c.from_residual.ensures.1 in
    subst (λ (r : Result Bool DeskFault). IsAnswered reply None v v before now r) (sym p.1)
    (lacking reply None v before now p.0 p.2 (subst IsAtRest c.self.view_is c.self.invariant.rest)
    c.tell_builds.ensures.front)

pub returns-in_err-keys : goal.returns-in_err-keys
returns-in_err-keys g c = λ s same.
    let v = c.args.self.now in
    let before = string_bytes c.args.out.now in
    let now = string_bytes c.tell_builds.new.out in
    let reply = claims s v.history c.args.builder c.args.key.now
    (row_of (rows_of v.history) c.args.key.now) in
    let p = err_from_is_err_and c.from_residual-in_err-keys.result
    c.from_residual-in_err-keys.ensures.1 in
    subst (λ (r : Result Bool DeskFault). IsAnswered reply None v v before now r) (sym p.1)
    (lacking reply None v before now p.0 p.2 (subst IsAtRest c.self.view_is c.self.invariant.rest)
    c.tell_builds.ensures.front)

pub enter-requires-clause-applies : goal.enter-requires-clause-applies
enter-requires-clause-applies g c =
    let inside = c.self.inside.chronicle in
    (can_claim inside.history c.args.builder c.args.number c.args.key.now c.in_ok-keys.keys
    c.requires.builder
    (claimable_inside inside c.args.self.now c.args.builder c.args.number c.args.key.now
    c.self.view_is c.requires.claimable)
    c.in_ok-keys.ensures c.self.invariant.rest.keys).applied

pub enter-requires-clause-lawful : goal.enter-requires-clause-lawful
enter-requires-clause-lawful g c =
    let inside = c.self.inside.chronicle in
    (can_claim inside.history c.args.builder c.args.number c.args.key.now c.in_ok-keys.keys
    c.requires.builder
    (claimable_inside inside c.args.self.now c.args.builder c.args.number c.args.key.now
    c.self.view_is c.requires.claimable)
    c.in_ok-keys.ensures c.self.invariant.rest.keys).lawful

pub enter-requires-clause-line : goal.enter-requires-clause-line
enter-requires-clause-line g c =
    let inside = c.self.inside.chronicle in
    (can_claim inside.history c.args.builder c.args.number c.args.key.now c.in_ok-keys.keys
    c.requires.builder
    (claimable_inside inside c.args.self.now c.args.builder c.args.number c.args.key.now
    c.self.view_is c.requires.claimable)
    c.in_ok-keys.ensures c.self.invariant.rest.keys).line

pub invariant_of-self : goal.invariant_of-self
invariant_of-self g c =
    let inside = c.self.inside.chronicle in
    let b = c.args.builder in
    let k = c.args.key.now in
    let fault : Result (Unit {0}) DeskFault = Err c.in_err-enter.field-0.0 in
    let can = claimable_inside inside c.args.self.now b c.args.number k c.self.view_is
    c.requires.claimable in
    desk_claimed {A = Unit {0}} b c.args.number k inside c.enter.new.self c.self.inside.hands
    c.take.new.self fault c.rows-rows.ensures.rising c.requires.builder c.take.ensures.room
    (claim_at inside.history b c.args.number k can) can.free c.take.ensures.taken
    (ap (λ (w : DeskView). w.stopped) c.self.view_is ∙ c.requires.running) c.self.invariant
    c.enter.ensures.rest
    (claim_done inside inside c.enter.new.self b k c.in_ok-keys.keys fault refl c.in_ok-keys.ensures
    c.in_err-enter.ensures.done)

pub invariant_of-self-2 : goal.invariant_of-self-2
invariant_of-self-2 g c =
    let inside = c.self.inside.chronicle in
    let b = c.args.builder in
    let k = c.args.key.now in
    let done : Result (Unit {0}) DeskFault = Ok tt in
    let can = claimable_inside inside c.args.self.now b c.args.number k c.self.view_is
    c.requires.claimable in
    desk_claimed {A = Unit {0}} b c.args.number k inside c.enter.new.self c.self.inside.hands
    c.take.new.self done c.rows-rows.ensures.rising c.requires.builder c.take.ensures.room
    (claim_at inside.history b c.args.number k can) can.free c.take.ensures.taken
    (ap (λ (w : DeskView). w.stopped) c.self.view_is ∙ c.requires.running) c.self.invariant
    c.enter.ensures.rest
    (claim_done inside inside c.enter.new.self b k c.in_ok-keys.keys done refl c.in_ok-keys.ensures
    c.in_ok-enter.ensures.done)

pub returns-in_err-enter : goal.returns-in_err-enter
returns-in_err-enter g c = λ s same.
    let v = c.args.self.now in
    let new = c.enter.new.self in
    let b = c.args.builder in
    let k = c.args.key.now in
    let can = c.requires.claimable in
    let before = string_bytes c.args.out.now in
    let now = string_bytes c.tell_builds.new.out in
    let fault = c.in_err-enter.field-0.0 in
    let reply = claims s v.history b k (row_of (rows_of v.history) k) in
    let p = err_from_is_err_and c.from_residual-in_err-enter.result
    c.from_residual-in_err-enter.ensures.1 in
    subst (λ (r : Result Bool DeskFault). IsAnswered reply None v new before now r)
    (sym (p.1 ∙ ap (λ (f : DeskFault). Err f) p.2))
    (claim_failed s v new b k can.row before now fault can.found can.free can.fit
    c.tell_builds.ensures.front
    (claim_done c.self.inside.chronicle v new b k c.in_ok-keys.keys (Err fault) c.self.view_is
    c.in_ok-keys.ensures c.in_err-enter.ensures.done))

pub returns : goal.returns
returns g c = λ s same.
    let v = c.args.self.now in
    let new = c.enter.new.self in
    let b = c.args.builder in
    let k = c.args.key.now in
    let can = c.requires.claimable in
    let before = string_bytes c.args.out.now in
    let now = string_bytes c.tell_builds.new.out in
    claim_answered s v new b k can.row before now can.found can.free can.fit
    (c.in_ok-tell_builds.ensures.ok s can.row same can.at)
    (claim_done c.self.inside.chronicle v new b k c.in_ok-keys.keys (Ok tt) c.self.view_is
    c.in_ok-keys.ensures c.in_ok-enter.ensures.done)
