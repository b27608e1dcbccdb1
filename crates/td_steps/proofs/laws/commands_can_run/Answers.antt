-- `commands_can_run`: the clauses `decide` and `run`.
use Rattle.td_steps.proofs.Choices.{worlds_decide, decided_commands_run}
use Rattle.td_steps.proofs.laws.commands_can_run.Goals as goal

pub returns-clause-decide : goal.returns-clause-decide
returns-clause-decide c = worlds_decide

pub returns-clause-run : goal.returns-clause-run
returns-clause-run c = decided_commands_run
