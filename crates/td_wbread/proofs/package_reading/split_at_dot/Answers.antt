-- `split_at_dot`: the clauses `before` and `behind`.
use Rattle.td_wbread.proofs.Dots.{dot_before, dot_behind, no_dot_before, no_dot_behind}
use Rattle.td_wbread.proofs.package_reading.split_at_dot.Goals as goal

pub returns-in-Some-clause-before : goal.returns-in-Some-clause-before
returns-in-Some-clause-before c = dot_before c.args.words.now c.in-Some.dot c.in-Some.ensures.place

pub returns-in-Some-clause-behind : goal.returns-in-Some-clause-behind
returns-in-Some-clause-behind c = dot_behind c.args.words.now c.in-Some.dot c.in-Some.ensures.place

pub returns-in-None-clause-before : goal.returns-in-None-clause-before
returns-in-None-clause-before c = no_dot_before c.args.words.now c.in-None.ensures.place

pub returns-in-None-clause-behind : goal.returns-in-None-clause-behind
returns-in-None-clause-behind c = no_dot_behind c.args.words.now c.in-None.ensures.place
