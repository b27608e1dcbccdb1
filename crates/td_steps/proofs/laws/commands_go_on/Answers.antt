-- `commands_go_on`: its clauses.
use Rattle.td_steps.proofs.Stops.{undos_go_on, others_go_on}
use Rattle.td_steps.proofs.Turns.{commands_go_on, starts_go_on, turns_run}
use Rattle.td_steps.proofs.laws.commands_go_on.Goals as goal

pub returns-clause-on : goal.returns-clause-on
returns-clause-on c = commands_go_on

pub returns-clause-starts : goal.returns-clause-starts
returns-clause-starts c = starts_go_on

pub returns-clause-undos : goal.returns-clause-undos
returns-clause-undos c = undos_go_on

pub returns-clause-runs : goal.returns-clause-runs
returns-clause-runs c = turns_run

pub returns-clause-others : goal.returns-clause-others
returns-clause-others c = others_go_on
