-- `read_archives_can_be_planned`: its three clauses.
use Rattle.td_plan.proofs.SoundArchives.{chosen-rows, opening-rows, replaced-rows}
use Rattle.td_plan.proofs.sound_laws.read_archives_can_be_planned.Goals as goal

pub returns-clause-opening : goal.returns-clause-opening
returns-clause-opening c = opening-rows

pub returns-clause-replaced : goal.returns-clause-replaced
returns-clause-replaced c = replaced-rows

pub returns-clause-chosen : goal.returns-clause-chosen
returns-clause-chosen c = chosen-rows
