-- `affected_rows_are_enough`: its two clauses.
use Rattle.td_plan.proofs.AffectedRows.{affected-opening-rows-are-enough, affected-rows-are-enough}
use Rattle.td_plan.proofs.sound_laws.affected_rows_are_enough.Goals as goal

pub returns-clause-rows : goal.returns-clause-rows
returns-clause-rows c = affected-rows-are-enough

pub returns-clause-opening : goal.returns-clause-opening
returns-clause-opening c = affected-opening-rows-are-enough
