-- `FileDesk::answer_heard`: one of the five lines is that of its request; a faulty one, and want of
-- memory.
use Rattle.std.proofs.Common.{None, refl, subst, sym, ◌∙◌}
use Rattle.std.specs.Prelude.{codes}
use Rattle.std.specs.String.{string_bytes}
use Rattle.std.proofs.lemmas.Result.{err_from_is_err_and}
use Rattle.td_rows.proofs.Appends.{grown_by_nothing}
use Rattle.td_lasting.specs.DeskView.{IsAtRest}
use Rattle.td_lasting.proofs.LineAnswers.{lacks}
use Rattle.td_lasting.proofs.OwnTexts.{own_heard}
use Rattle.td_lasting.proofs.Shown.{refused_shown}
use Rattle.td_lasting.proofs.desk.FileDesk.answer_heard.Goals as goal

pub returns-in_err-request : goal.returns-in_err-request
returns-in_err-request g c =
    let before = string_bytes c.args.out.now in
    lacks _ _ _ _ _ _ (subst IsAtRest c.self.view_is c.self.invariant.rest)
    (grown_by_nothing before before refl)
    (err_from_is_err_and c.from_residual.result c.from_residual.ensures.1)

pub answer_own-requires-clause-fits : goal.answer_own-requires-clause-fits
answer_own-requires-clause-fits g c =
    ((own_heard c.args.line.now c.in-Own.request).0
    (sym c.in_ok-request.ensures ∙ c.in-Own.is)).1

pub returns-in_ok-refuse-in-Bad : goal.returns-in_ok-refuse-in-Bad
returns-in_ok-refuse-in-Bad g c =
    let v = c.args.self.now in
    let before = string_bytes c.args.out.now in
    let now = string_bytes c.refuse.new.out in
    rw (sym c.in_ok-request.ensures, c.in-Bad.is)
    (refused_shown (codes "BadLine") None v before now c.in_ok-refuse-in-Bad.field-0
    (subst IsAtRest c.self.view_is c.self.invariant.rest) c.requires.running
    c.in_ok-refuse-in-Bad.ensures.ok)
