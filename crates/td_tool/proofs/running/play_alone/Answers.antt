-- `play_alone`: what it answers.
use Rattle.std.proofs.Common.{◌≡◌, false, subst, sym, refl}
use Rattle.td_tool.specs.UnreadFiles.{tells_of_unread_file}
use Rattle.td_tool.proofs.Dues.{script_due}
use Rattle.td_tool.proofs.FileEndings.{of_script}
use Rattle.td_tool.proofs.SureRuns.{plays_alone}
use Rattle.td_tool.proofs.running.play_alone.Goals as goal

pub returns-clause-plays : goal.returns-clause-plays
returns-clause-plays g c = λ x suite are.
    plays_alone 0 x suite c.args.inputs.now
    (g.R.Read.remaining c.args.reader.now) (g.W.Write.contents c.args.output.now)
    (g.W.Write.contents c.run_script.new.writer) c.run_script.result c.ending_of_script.result
    refl are c.run_script.ensures.says c.run_script.ensures.only c.ending_of_script.ensures

pub returns-clause-told : goal.returns-clause-told
returns-clause-told g c =
    subst (λ e. tells_of_unread_file e ≡ false) (sym c.ending_of_script.ensures)
    (of_script c.run_script.result)

pub returns-clause-due : goal.returns-clause-due
returns-clause-due g c =
    script_due (g.R.Reader.can_fail c.args.reader.now) (g.W.Writer.can_fail c.args.output.now)
    c.run_script.result c.ending_of_script.result c.ending_of_script.ensures
    c.run_script.ensures.unread c.run_script.ensures.unwritten
