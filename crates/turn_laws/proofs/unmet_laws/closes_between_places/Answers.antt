use Rattle.turn_laws.proofs.Missing.{closes_between_places}
use Rattle.turn_laws.proofs.unmet_laws.closes_between_places.Goals as goal

pub returns : goal.returns
returns c = closes_between_places
