-- `Ending::answer`: the clause `line`.
use Rattle.td_tool.proofs.Explanations.{front_said}
use Rattle.td_tool.proofs.ending.Ending.answer.Goals as goal

pub returns-clause-line : goal.returns-clause-line
returns-clause-line g c =
    front_said _ _ _ c.tell.result c.tell.ensures.whole c.tell.ensures.prefix
