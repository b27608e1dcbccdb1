-- `Tracker::whole`: the clause `compiled`.
use Rattle.td_query.proofs.AlikePatterns.{are_read}
use Rattle.td_query.proofs.tracker.Tracker.whole.Goals as goal

pub returns-clause-compiled : goal.returns-clause-compiled
returns-clause-compiled c = are_read c.args.patterns.items c.requires.compiled
