-- `inputs_for`: the inputs, and why there are none.
use Rattle.std.proofs.Common.{string_bytes}
use Rattle.td_tool.specs.RunInside.{run_files_at}
use Rattle.td_tool.proofs.RunInputs.{inputs_are, no_inputs, within_limit}
use Rattle.td_tool.proofs.running.inputs_for.Goals as goal

pub inputs_by-requires : goal.inputs_by-requires
inputs_by-requires g c =
    within_limit
    (run_files_at (g.T.Texts.bytes c.args.texts.now) (g.T.Texts.can_fail c.args.texts.now)
    c.args.request.now) c.read_run_files-read.result c.read_run_files-read.ensures.texts

pub returns-clause-inputs : goal.returns-clause-inputs
returns-clause-inputs g c =
    inputs_are
    (run_files_at (g.T.Texts.bytes c.args.texts.now) (g.T.Texts.can_fail c.args.texts.now)
    c.args.request.now) (string_bytes c.args.request.now.suite) c.read_run_files-read.result
    c.inputs_by.result c.read_run_files-read.ensures.texts c.inputs_by.ensures.inputs
    c.inputs_by.ensures.unread

pub returns-clause-none : goal.returns-clause-none
returns-clause-none g c =
    no_inputs
    (run_files_at (g.T.Texts.bytes c.args.texts.now) (g.T.Texts.can_fail c.args.texts.now)
    c.args.request.now) c.read_run_files-read.result c.inputs_by.result
    c.read_run_files-read.ensures.failed c.inputs_by.ensures.memory c.inputs_by.ensures.unread
