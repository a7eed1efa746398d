use Rattle.play_laws.proofs.FaultLaws.{first_is_found}
use Rattle.play_laws.proofs.fault_laws.first_is_found.Goals as goal

pub returns : goal.returns
returns c = first_is_found
