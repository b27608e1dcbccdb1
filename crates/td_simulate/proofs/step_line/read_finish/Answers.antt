-- `read_finish`: the call of `read_ending`.
use Rattle.std.proofs.Common.{sym}
use Rattle.td_simulate.proofs.StepTexts.{finish_lacks}
use Rattle.td_simulate.proofs.step_line.read_finish.Goals as goal

pub read_ending-requires : goal.read_ending-requires
read_ending-requires c =
    finish_lacks c.args.text.now (c.in-Some.builder, c.in-Some.rest.now) c.requires
    (sym c.in-Some.ensures)
