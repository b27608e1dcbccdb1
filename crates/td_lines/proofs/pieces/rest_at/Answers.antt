-- `rest_at`: what it answers.
use Rattle.std.proofs.Common.{drop}
use Rattle.td_lines.proofs.Cuts.{part_is, whole_is}
use Rattle.td_lines.proofs.pieces.rest_at.Goals as goal

pub returns-in-Ok : goal.returns-in-Ok
returns-in-Ok c =
    part_is (drop c.args.place c.args.line.now) c.args.line.now c.halves.result.1.now
    c.in-Ok.text.now c.halves.ensures.rest c.in-Ok.ensures.cases.0 c.in-Ok.ensures.cases.1

pub returns-in-Err : goal.returns-in-Err
returns-in-Err c =
    whole_is (drop c.args.place c.args.line.now) c.args.line.now c.halves.result.1.now
    c.halves.ensures.rest c.in-Err.ensures.cases.0
