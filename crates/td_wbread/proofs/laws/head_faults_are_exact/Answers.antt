-- `head_faults_are_exact`: what it answers.
use Rattle.td_wbread.proofs.HeadOrder.{head_faults_are_exact}
use Rattle.td_wbread.proofs.ListFaults.{arch_faults_are_exact, package_faults_are_exact}
use Rattle.td_wbread.proofs.VerbFaults.{verb_faults_are_exact}
use Rattle.td_wbread.proofs.laws.head_faults_are_exact.Goals as goal

pub returns : goal.returns
returns c =
    record {
      verbs = verb_faults_are_exact;
      packages = package_faults_are_exact;
      archs = arch_faults_are_exact;
      heads = head_faults_are_exact;
    }
