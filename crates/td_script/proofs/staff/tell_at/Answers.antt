-- `tell_at`: what it answers, and what its call asks.
use Rattle.std.proofs.Common.{◌≡◌, Err, ap, length, subst}
use Rattle.std.specs.Prelude.{MatchResult}
use Rattle.td_script.specs.OpeningInside.{IsToldFor}
use Rattle.td_script.specs.Reporting.{report_by}
use Rattle.td_script.specs.Settings.{setting_lent}
use Rattle.td_script.proofs.StaffLaws.{begun_lent, told_begun}
use Rattle.td_script.proofs.staff.tell_at.Goals as goal

pub tell_if_begun-requires-clause-lent : goal.tell_if_begun-requires-clause-lent
tell_if_begun-requires-clause-lent c =
    begun_lent c.args.asked _ _ _ c.begin_over-begun.result c.requires.board
    (ap (λ d. length d.noted) c.requires.seat) c.begin_over-begun.ensures.begun
    c.requires.fit.made

pub returns : goal.returns
returns c =
    told_begun c.args.asked _ _ c.begin_over-begun.result c.tell_if_begun.result
    c.begin_over-begun.ensures.begun c.begin_over-begun.ensures.fault
    c.begin_over-begun.ensures.only
    (subst (λ suites. MatchResult c.begin_over-begun.result
    (λ book. IsToldFor book (setting_lent report_by book.fixed.stock suites c.args.asked.reports)
    c.args.asked.script.now c.tell_if_begun.result) (λ e. c.tell_if_begun.result ≡ Err e))
    c.as_slice.ensures c.tell_if_begun.ensures)
