-- `tell_begun`: what it answers.
use Rattle.td_script.proofs.staff.tell_begun.Goals as goal

pub returns-in-Ok : goal.returns-in-Ok
returns-in-Ok c = record { told = c.in-Ok.ensures; memory = tt }
