-- `plan_relations_are_read`: what it answers.
use Rattle.td_plan.proofs.RebuiltTexts.{rebuilt_texts_are_read, rebuilt_versions_are_read}
use Rattle.td_plan.proofs.SaidRelations.{relations_are_read}
use Rattle.td_plan.proofs.laws.plan_relations_are_read.Goals as goal

pub returns : goal.returns
returns c =
    record {
      relations = relations_are_read;
      versions = rebuilt_versions_are_read;
      bases = rebuilt_texts_are_read;
    }
