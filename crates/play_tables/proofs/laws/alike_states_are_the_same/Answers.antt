use Rattle.play_state_text.proofs.FactEquality.{same_if_alike}
use Rattle.play_tables.proofs.laws.alike_states_are_the_same.Goals as goal

pub returns : goal.returns
returns c = same_if_alike
