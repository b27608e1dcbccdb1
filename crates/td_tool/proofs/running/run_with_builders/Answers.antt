-- `run_with_builders`: what it answers.
use Rattle.std.proofs.Common.{rules}
use Rattle.td_tool.proofs.Dues.{inputs_due}
use Rattle.td_tool.proofs.SureRuns.{run_over_inputs, run_without_inputs}
use Rattle.td_tool.specs.RunInside.{run_files_at}
use Rattle.td_tool.proofs.running.run_with_builders.Goals as goal

pub returns-in-Err-clause-ends : goal.returns-in-Err-clause-ends
returns-in-Err-clause-ends g c =
    run_without_inputs _ _ _ _ _ _ c.in-Err.unread c.in-Err.ensures.none (search rules)
    (search rules)

pub returns-clause-ends : goal.returns-clause-ends
returns-clause-ends g c =
    run_over_inputs _ _ c.in-Ok.inputs _ _ _ _ c.play_with_builders-ending.result
    c.in-Ok.ensures.inputs
    (c.play_with_builders-ending.ensures.plays _ c.requires)
    c.play_with_builders-ending.ensures.told

pub returns-in-Err-clause-due : goal.returns-in-Err-clause-due
returns-in-Err-clause-due g c =
    inputs_due (g.R.Reader.can_fail c.args.reader.now) (g.W.Writer.can_fail c.args.output.now)
    (run_files_at (g.T.Texts.bytes c.args.texts.now) (g.T.Texts.can_fail c.args.texts.now)
    c.args.request.now) c.in-Err.unread c.in-Err.ensures.none
