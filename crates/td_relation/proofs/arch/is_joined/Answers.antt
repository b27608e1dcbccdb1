-- `is_joined`: what it answers.
use Rattle.std.proofs.Common.{◌∙◌}
use Rattle.td_relation.proofs.Lists.{joined_some, joined_none}
use Rattle.td_relation.proofs.arch.is_joined.Goals as goal

pub returns-in-Some : goal.returns-in-Some
returns-in-Some c =
    c.eq.ensures ∙ joined_some c.args.word.now c.args.front.now c.args.back.now c.in-Some.rest.now
    c.in-Some.ensures.cases.0 c.in-Some.ensures.cases.1

pub returns-in-None : goal.returns-in-None
returns-in-None c =
    joined_none c.args.word.now c.args.front.now c.args.back.now c.in-None.ensures.cases
