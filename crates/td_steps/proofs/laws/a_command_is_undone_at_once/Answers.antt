-- `a_command_is_undone_at_once`: what it answers.
use Rattle.td_steps.proofs.Books.{undone_at_once}
use Rattle.td_steps.proofs.laws.a_command_is_undone_at_once.Goals as goal

pub returns : goal.returns
returns c = undone_at_once
