-- `patterns_end_at_their_slash`: what it answers.
use Rattle.td_query.proofs.PatternEnds.{patterns_end}
use Rattle.td_query.proofs.laws.patterns_end_at_their_slash.Goals as goal

pub returns : goal.returns
returns c = patterns_end
