-- `other_calls_are_steps`: its clauses.
use Rattle.td_steps.proofs.Arrivals.{arrivals_are_steps, sweeps_are_steps}
use Rattle.td_steps.proofs.Builds.{starts_are_steps, finishes_are_steps}
use Rattle.td_steps.proofs.Watches.{watches_are_steps}
use Rattle.td_steps.proofs.laws.other_calls_are_steps.Goals as goal

pub returns-clause-starts : goal.returns-clause-starts
returns-clause-starts c = starts_are_steps

pub returns-clause-finishes : goal.returns-clause-finishes
returns-clause-finishes c = finishes_are_steps

pub returns-clause-arrivals : goal.returns-clause-arrivals
returns-clause-arrivals c = arrivals_are_steps

pub returns-clause-sweeps : goal.returns-clause-sweeps
returns-clause-sweeps c = sweeps_are_steps

pub returns-clause-watches : goal.returns-clause-watches
returns-clause-watches c = watches_are_steps
