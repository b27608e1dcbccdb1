-- `FileDesk::answer_script`: a line that asks for nothing, one that is no request, and want of
-- memory.
use Rattle.std.proofs.Common.{false, [], None, append-nil, inl, refl, subst, sym}
use Rattle.std.specs.Prelude.{codes}
use Rattle.std.specs.String.{string_bytes}
use Rattle.std.proofs.lemmas.Result.{err_from_is_err_and}
use Rattle.td_rows.proofs.Appends.{grown_by_nothing}
use Rattle.td_script.specs.Replies.{says}
use Rattle.td_lasting.specs.DeskView.{IsAtRest}
use Rattle.td_lasting.proofs.AnswerLaws.{shown}
use Rattle.td_lasting.proofs.LineAnswers.{lacks}
use Rattle.td_lasting.proofs.Shown.{refused_shown}
use Rattle.td_lasting.proofs.desk.FileDesk.answer_script.Goals as goal

pub returns-in_err-read_line : goal.returns-in_err-read_line
returns-in_err-read_line g c =
    let before = string_bytes c.args.out.now in
    lacks _ _ _ _ _ _ (subst IsAtRest c.self.view_is c.self.invariant.rest)
    (grown_by_nothing before before refl)
    (err_from_is_err_and c.from_residual.result c.from_residual.ensures.1)

pub returns-in-Skipped : goal.returns-in-Skipped
returns-in-Skipped g c =
    let v = c.args.self.now in
    let before = string_bytes c.args.out.now in
    rw (sym c.in_ok-read_line.ensures, c.in-Skipped.is)
    (shown (says v.history []) None v before before false
    (subst IsAtRest c.self.view_is c.self.invariant.rest) c.requires.running (refl, inl refl)
    (sym (append-nil before)) refl)

pub returns-in_ok-refuse-in-Bad : goal.returns-in_ok-refuse-in-Bad
returns-in_ok-refuse-in-Bad g c =
    let v = c.args.self.now in
    let before = string_bytes c.args.out.now in
    let now = string_bytes c.refuse.new.out in
    rw (sym c.in_ok-read_line.ensures, c.in-Bad.is)
    (refused_shown (codes "BadLine") None v before now c.in_ok-refuse-in-Bad.field-0
    (subst IsAtRest c.self.view_is c.self.invariant.rest) c.requires.running
    c.in_ok-refuse-in-Bad.ensures.ok)
