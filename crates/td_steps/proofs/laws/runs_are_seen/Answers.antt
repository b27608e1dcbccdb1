-- `runs_are_seen`: what it answers.
use Rattle.td_steps.proofs.Moves.{runs_are_seen}
use Rattle.td_steps.proofs.laws.runs_are_seen.Goals as goal

pub returns : goal.returns
returns c = runs_are_seen
