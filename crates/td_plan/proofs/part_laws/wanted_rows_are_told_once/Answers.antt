-- `wanted_rows_are_told_once`: what it answers.
use Rattle.td_plan.proofs.RowLaws.{wanted-rows-are-told-once}
use Rattle.td_plan.proofs.part_laws.wanted_rows_are_told_once.Goals as goal

pub returns : goal.returns
returns c = wanted-rows-are-told-once
