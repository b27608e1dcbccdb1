-- `run_explained`: its clauses without notes.
use Rattle.std.proofs.Common.{string_bytes}
use Rattle.td_tool.proofs.Explanations.{ends_alone, noted_alone}
use Rattle.td_tool.specs.Runs.{AreNotes, EndsRun}
use Rattle.td_tool.specs.RunInside.{run_files_at}
use Rattle.td_tool.specs.Streams.{IsDue}
use Rattle.td_tool.proofs.noting.run_explained.Goals as goal

pub returns-else-explained-clause-ends : goal.returns-else-explained-clause-ends
returns-else-explained-clause-ends g c =
    ends_alone (EndsRun
    (run_files_at (g.T.Texts.bytes c.args.texts.now) (g.T.Texts.can_fail c.args.texts.now)
    c.args.request.now) (string_bytes c.args.request.now.suite)
    (g.R.Read.remaining c.args.reader.now) (g.R.Read.remaining c.run_alone.new.reader)
    (g.W.Write.contents c.args.output.now) (g.W.Write.contents c.run_alone.new.output))
    c.run_alone.result c.alone.result c.alone.ensures c.run_alone.ensures.ends

pub returns-else-explained-clause-due : goal.returns-else-explained-clause-due
returns-else-explained-clause-due g c =
    ends_alone
    (IsDue (g.R.Reader.can_fail c.args.reader.now) (g.W.Writer.can_fail c.args.output.now))
    c.run_alone.result c.alone.result c.alone.ensures c.run_alone.ensures.due

pub returns-else-explained-clause-noted : goal.returns-else-explained-clause-noted
returns-else-explained-clause-noted g c =
    noted_alone (AreNotes
    (run_files_at (g.T.Texts.bytes c.args.texts.now) (g.T.Texts.can_fail c.args.texts.now)
    c.args.request.now) (string_bytes c.args.request.now.suite)
    (g.R.Read.remaining c.args.reader.now)) c.run_alone.result c.alone.result c.alone.ensures
