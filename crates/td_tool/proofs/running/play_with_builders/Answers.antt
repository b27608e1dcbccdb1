-- `play_with_builders`: what it answers.
use Rattle.std.proofs.Common.{◌≡◌, false, subst, sym, ne_eqb}
use Rattle.td_tool.specs.UnreadFiles.{tells_of_unread_file}
use Rattle.td_tool.proofs.Dues.{crew_due}
use Rattle.td_tool.proofs.FileEndings.{of_crew}
use Rattle.td_tool.proofs.SureRuns.{plays_crew}
use Rattle.td_tool.proofs.running.play_with_builders.Goals as goal

pub returns-clause-plays : goal.returns-clause-plays
returns-clause-plays g c = λ builders some x suite are.
    plays_crew builders x suite c.args.inputs.now
    (g.R.Read.remaining c.args.reader.now) (g.W.Write.contents c.args.output.now)
    (g.W.Write.contents c.run_crew.new.writer) c.run_crew.result c.ending_of_crew.result
    (ne_eqb builders 0 some) are c.run_crew.ensures.says c.run_crew.ensures.only
    c.ending_of_crew.ensures

pub returns-clause-told : goal.returns-clause-told
returns-clause-told g c =
    subst (λ e. tells_of_unread_file e ≡ false) (sym c.ending_of_crew.ensures)
    (of_crew c.run_crew.result)

pub returns-clause-due : goal.returns-clause-due
returns-clause-due g c =
    crew_due (g.R.Reader.can_fail c.args.reader.now) (g.W.Writer.can_fail c.args.output.now)
    c.run_crew.result c.ending_of_crew.result c.ending_of_crew.ensures
    c.run_crew.ensures.unread c.run_crew.ensures.unwritten
