use Rattle.turn_laws.proofs.Missing.{lacked_hints_come_to_nothing}
use Rattle.turn_laws.proofs.unmet_laws.lacked_hints_come_to_nothing.Goals as goal

pub returns : goal.returns
returns c = lacked_hints_come_to_nothing
