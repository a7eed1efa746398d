use Rattle.turn_laws.proofs.WordLines.{no_object_is_above}
use Rattle.turn_laws.proofs.unmet_laws.no_object_is_above.Goals as goal

pub returns : goal.returns
returns c = no_object_is_above
