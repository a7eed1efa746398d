use Rattle.turn_laws.proofs.Reaching.{reachable_is_lawful}
use Rattle.turn_laws.proofs.reachable.reachable_states_are_lawful.Goals as goal

pub returns : goal.returns
returns c = reachable_is_lawful
