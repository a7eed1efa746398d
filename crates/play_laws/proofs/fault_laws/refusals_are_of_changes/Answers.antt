use Rattle.play_laws.proofs.FaultLaws.{refusals_are_of_changes}
use Rattle.play_laws.proofs.fault_laws.refusals_are_of_changes.Goals as goal

pub returns : goal.returns
returns c = refusals_are_of_changes
