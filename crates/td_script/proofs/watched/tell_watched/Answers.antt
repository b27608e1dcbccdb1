-- `tell_watched`: what it answers, and what its calls ask.
use Rattle.std.proofs.Common.{IfOk, Some, refl, subst, sym}
use Rattle.std.specs.Prelude.{IfSome, string_bytes}
use Rattle.std.proofs.lemmas.Result.{IfOk-weaker}
use Rattle.td_report.specs.TransitionView.{IsMade}
use Rattle.td_script.specs.Ends.{IsAnswered}
use Rattle.td_script.specs.Reporting.{report_by}
use Rattle.td_script.specs.Settings.{IsLentTo, setting_lent}
use Rattle.td_script.specs.Watched.{Watches}
use Rattle.td_script.proofs.ScriptLaws.{told_answered}
use Rattle.td_script.proofs.watched.tell_watched.Goals as goal

pub watch-requires : goal.watch-requires
watch-requires c =
    subst (λ o. IfSome o (λ x. IsMade x.now)) c.in-Some.is c.requires.lent.fits

pub tell_counted-requires-clause-lent : goal.tell_counted-requires-clause-lent
tell_counted-requires-clause-lent c =
    subst (IsLentTo Watches c.args.lent.now.board.now.table (Some c.in-Some.transition))
    (sym c.in_ok-watch-in-Some.ensures) (record {
      board = c.requires.lent.board;
      alone = c.requires.lent.alone;
      fits = record {
        made = subst (λ o. IfSome o (λ x. IsMade x.now)) c.in-Some.is c.requires.lent.fits;
        watch = refl;
      };
    })

pub returns-in_ok-watch-in-Some : goal.returns-in_ok-watch-in-Some
returns-in_ok-watch-in-Some c =
    rw c.in-Some.is
    (subst (λ b. IfOk c.tell_counted.result (λ told.
    IsAnswered (setting_lent report_by b.fixed.stock c.args.lent.now.suites.now
    (Some c.in-Some.transition)) b.history c.args.script.now (string_bytes told.text)
    told.refused)) c.in_ok-watch-in-Some.ensures
    (IfOk-weaker c.tell_counted.result _ _
    (told_answered _ c.args.script.now c.watch.new.book c.tell_counted.new.book)
    c.tell_counted.ensures))

pub returns-in-None : goal.returns-in-None
returns-in-None c =
    IfOk-weaker c.tell.result _ _
    (told_answered _ c.args.script.now c.args.book.now c.tell.new.book) c.tell.ensures.told
