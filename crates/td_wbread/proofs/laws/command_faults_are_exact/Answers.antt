-- `command_faults_are_exact`: what it answers.
use Rattle.td_wbread.proofs.CommandFaults.{command_faults_are_exact}
use Rattle.td_wbread.proofs.TailFaults.{tail_faults_are_exact}
use Rattle.td_wbread.proofs.laws.command_faults_are_exact.Goals as goal

pub returns : goal.returns
returns c =
    record {
      tails = tail_faults_are_exact;
      commands = command_faults_are_exact;
    }
