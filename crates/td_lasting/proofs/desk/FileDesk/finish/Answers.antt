-- `FileDesk::finish`: a build that can't end, and one that does.
use Rattle.std.proofs.Common.{◌≡◌, Bool, true, false, None, Result, refl, sym, subst, ◌∙◌}
use Rattle.std.specs.String.{string_bytes}
use Rattle.std.proofs.lemmas.Result.{err_from_is_err_and}
use Rattle.td_rows.proofs.Appends.{grown_by_nothing}
use Rattle.td_core.specs.History.{rows_of}
use Rattle.td_lasting.specs.declared.chronicle.DeskFault.{DeskFault}
use Rattle.td_lasting.specs.DeskAnswers.{finishes, is_readable}
use Rattle.td_lasting.specs.DeskView.{IsAtRest}
use Rattle.td_lasting.specs.Hands.{held_by}
use Rattle.td_lasting.specs.inner.Answered.{IsAnswered}
use Rattle.td_lasting.proofs.AnswerLaws.{lacking}
use Rattle.td_lasting.proofs.BuildLaws.{end_of_none, end_unread, no_key}
use Rattle.td_lasting.proofs.desk.FileDesk.finish.Goals as goal

pub returns-in_err-is_readable : goal.returns-in_err-is_readable
returns-in_err-is_readable g c =
    let v = c.args.self.now in
    let text = string_bytes c.args.out.now in
    let reply = finishes v.history c.args.builder c.args.outcome in
    let p = err_from_is_err_and c.from_residual.result c.from_residual.ensures.1 in
    subst (λ (r : Result Bool DeskFault). IsAnswered reply None v v text text r) (sym p.1)
    (lacking reply None v text text p.0 p.2 (subst IsAtRest c.self.view_is c.self.invariant.rest)
    (grown_by_nothing text text refl))

pub returns-then-not-branch : goal.returns-then-not-branch
returns-then-not-branch g c =
    let unread : is_readable c.args.outcome ≡ false =
    sym c.in_ok-is_readable.ensures ∙ c.if-not-branch.true in
    end_unread c.args.self.now c.args.builder c.args.outcome (string_bytes c.args.out.now)
    (string_bytes c.refuse.new.out) c.in_ok-refuse.field-0
    (subst IsAtRest c.self.view_is c.self.invariant.rest) c.requires.running unread
    c.in_ok-refuse.ensures.ok

pub returns-in_err-refuse-in-None : goal.returns-in_err-refuse-in-None
returns-in_err-refuse-in-None g c =
    let v = c.args.self.now in
    let before = string_bytes c.args.out.now in
    let now = string_bytes c.refuse-in-None.new.out in
    let reply = finishes v.history c.args.builder c.args.outcome in
    let p = err_from_is_err_and c.from_residual-in_err-refuse-in-None.result
    c.from_residual-in_err-refuse-in-None.ensures.1 in
    subst (λ (r : Result Bool DeskFault). IsAnswered reply None v v before now r) (sym p.1)
    (lacking reply None v before now p.0 p.2 (subst IsAtRest c.self.view_is c.self.invariant.rest)
    (grown_by_nothing before now c.in_err-refuse-in-None.ensures.err))

pub returns-in_ok-refuse-in-None : goal.returns-in_ok-refuse-in-None
returns-in_ok-refuse-in-None g c =
    let h = c.args.self.now.history in
    let read : is_readable c.args.outcome ≡ true =
    sym c.in_ok-is_readable.ensures ∙ c.if-not-branch.false in
    end_of_none c.args.self.now c.args.builder c.args.outcome (string_bytes c.args.out.now)
    (string_bytes c.refuse-in-None.new.out) c.in_ok-refuse-in-None.field-0
    (subst IsAtRest c.self.view_is c.self.invariant.rest) c.requires.running read
    (no_key (held_by (rows_of h) c.args.builder) (c.in_ok-keys.ensures ∙ c.in-None.is))
    c.in_ok-refuse-in-None.ensures.ok
