-- `waits_have_lines`: its three clauses.
use Rattle.td_plan.proofs.WaitLines.{check_lines_are_there, dw_lines_are_there}
use Rattle.td_plan.proofs.WaitLines.{no_wait_lines_are_there}
use Rattle.td_plan.proofs.comment_laws.waits_have_lines.Goals as goal

pub returns-clause-told : goal.returns-clause-told
returns-clause-told c = dw_lines_are_there

pub returns-clause-older : goal.returns-clause-older
returns-clause-older c = check_lines_are_there

pub returns-clause-untold : goal.returns-clause-untold
returns-clause-untold c = no_wait_lines_are_there
