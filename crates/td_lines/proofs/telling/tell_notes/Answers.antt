-- `tell_notes`: what it answers, and what its call asks.
use Rattle.std.proofs.Common.{◌≡◌, subst, sym}
use Rattle.td_script.specs.Asking.{IsToldOf}
use Rattle.td_script.specs.Ends.{IsAnswered}
use Rattle.td_lines.proofs.Told.{fits, noted_or_not, unjudged}
use Rattle.td_lines.proofs.telling.tell_notes.Goals as goal

pub tell_alone-requires : goal.tell_alone-requires
tell_alone-requires c =
    fits c.args.asked c.without_lines.result c.without_lines.ensures.rows
    c.without_lines.ensures.reports c.without_lines.ensures.script c.requires

pub returns-in-Ok : goal.returns-in-Ok
returns-in-Ok c =
    noted_or_not c.args.asked c.without_lines.result c.in-Ok.field-0 c.notes_over-noted.result
    c.told_of.result c.without_lines.ensures.rows c.without_lines.ensures.journal
    (subst (IsToldOf IsAnswered c.without_lines.result) c.in-Ok.is c.tell_alone.ensures)
    c.notes_over-noted.ensures c.told_of.ensures.told c.told_of.ensures.memory

pub returns-in-Err : goal.returns-in-Err
returns-in-Err c =
    unjudged c.args.asked c.without_lines.result c.tell_alone.result c.in-Err.fault c.in-Err.is
    c.without_lines.ensures.rows c.without_lines.ensures.journal c.tell_alone.ensures
