-- `run_noted`: its clauses.
use Rattle.std.proofs.Common.{rules, string_bytes, subst, sym}
use Rattle.td_tool.proofs.Dues.{inputs_due}
use Rattle.td_tool.proofs.Explanations.{ends_alone, noted_alone}
use Rattle.td_tool.proofs.Noted.{notes_over}
use Rattle.td_tool.proofs.SureRuns.{run_over_inputs, run_without_inputs}
use Rattle.td_tool.specs.Runs.{AreNotes, EndsRun}
use Rattle.td_tool.specs.RunInside.{PlaysInputs, run_files_at}
use Rattle.td_tool.specs.Streams.{IsDue}
use Rattle.td_tool.proofs.noting.run_noted.Goals as goal

pub returns-in-Err-clause-ends : goal.returns-in-Err-clause-ends
returns-in-Err-clause-ends g c =
    let files = run_files_at (g.T.Texts.bytes c.args.texts.now)
    (g.T.Texts.can_fail c.args.texts.now) c.args.request.now in
    ends_alone (EndsRun files (string_bytes c.args.request.now.suite)
    (g.R.Read.remaining c.args.reader.now) (g.R.Read.remaining c.args.reader.now)
    (g.W.Write.contents c.args.output.now) (g.W.Write.contents c.args.output.now))
    c.in-Err.ending c.alone.result c.alone.ensures
    (run_without_inputs _ _ _ _ _ _ c.in-Err.ending c.in-Err.ensures.none (search rules)
    (search rules))

pub returns-in-Err-clause-due : goal.returns-in-Err-clause-due
returns-in-Err-clause-due g c =
    let input = g.R.Reader.can_fail c.args.reader.now in
    let output = g.W.Writer.can_fail c.args.output.now in
    ends_alone (IsDue input output) c.in-Err.ending c.alone.result c.alone.ensures
    (inputs_due input output
    (run_files_at (g.T.Texts.bytes c.args.texts.now) (g.T.Texts.can_fail c.args.texts.now)
    c.args.request.now) c.in-Err.ending c.in-Err.ensures.none)

pub returns-in-Err-clause-noted : goal.returns-in-Err-clause-noted
returns-in-Err-clause-noted g c =
    noted_alone (AreNotes
    (run_files_at (g.T.Texts.bytes c.args.texts.now) (g.T.Texts.can_fail c.args.texts.now)
    c.args.request.now) (string_bytes c.args.request.now.suite)
    (g.R.Read.remaining c.args.reader.now)) c.in-Err.ending c.alone.result c.alone.ensures

pub returns-clause-ends : goal.returns-clause-ends
returns-clause-ends g c =
    run_over_inputs _ _ c.in-Ok.inputs _ _ _ _ c.play_noted-ended.result.ending
    c.in-Ok.ensures.inputs
    (subst (λ n. PlaysInputs n c.in-Ok.inputs (g.R.Read.remaining c.args.reader.now)
    (g.W.Write.contents c.args.output.now) (g.W.Write.contents c.play_noted-ended.new.output)
    c.play_noted-ended.result.ending) (sym c.requires) c.play_noted-ended.ensures.plays)
    c.play_noted-ended.ensures.told

pub returns-clause-noted : goal.returns-clause-noted
returns-clause-noted g c =
    notes_over
    (run_files_at (g.T.Texts.bytes c.args.texts.now) (g.T.Texts.can_fail c.args.texts.now)
    c.args.request.now) (string_bytes c.args.request.now.suite) c.in-Ok.inputs
    (g.R.Read.remaining c.args.reader.now) c.play_noted-ended.result.notes
    c.in-Ok.ensures.inputs c.play_noted-ended.ensures.noted
