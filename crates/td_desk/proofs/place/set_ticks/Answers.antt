-- Ticks for all entries of a journal, those of its text among them.
use Rattle.std.proofs.Common.{arith}
use Rattle.td_desk.specs.Marks.{marks_in}
use Rattle.td_desk.proofs.Reopening.{begun_few}
use Rattle.td_desk.proofs.place.set_ticks.Goals as goal

pub returns : goal.returns
returns c =
    let os = marks_in c.args.text.now in (
      (c.add_ticks.ensures.begun os (begun_few os c.in_ok-begun.begun.items
          c.in_ok-begun.ensures)).0,
      omega (arith, c.in_ok-add_ticks.ensures.room),
    )
