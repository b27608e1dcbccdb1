-- `relations_are_refused_exactly`: what it answers.
use Rattle.td_relation.proofs.FirstFaults.{first_faults_are_exact, first_faults_are_one}
use Rattle.td_relation.proofs.FirstFaults.{relation_or_fault, relations_have_no_fault}
use Rattle.td_relation.proofs.laws.relations_are_refused_exactly.Goals as goal

pub returns : goal.returns
returns c =
    record {
      exact = first_faults_are_exact;
      one = first_faults_are_one;
      each = relation_or_fault;
      apart = relations_have_no_fault;
    }
