-- `plan`: what it leaves on standard output is the plan with the words that were asked for.
use Rattle.std.proofs.Common.{subst}
use Rattle.td_words.specs.Asked.{plan_words}
use Rattle.td_tool.specs.Program.{plan_files}
use Rattle.td_tool.specs.Tracks.{EndsSo, IsPlanWith}
use Rattle.td_tool.proofs.planning.plan.Goals as goal

pub returns-clause-ends : goal.returns-clause-ends
returns-clause-ends g c =
    subst (λ words. EndsSo (IsPlanWith words)
    (plan_files (g.T.Texts.bytes c.args.texts.now) (g.T.Texts.can_fail c.args.texts.now)
    (plan_words c.args.request.now))
    (g.W.Write.contents c.args.output.now) (g.W.Write.contents c.track.new.output)
    c.track.result) c.words_of.ensures c.track.ensures.ends
