use Rattle.data_lines.proofs.FirstFaults.{faults_are_first}
use Rattle.data_lines.proofs.laws.faults_are_first.Goals as goal

pub returns : goal.returns
returns c = faults_are_first
