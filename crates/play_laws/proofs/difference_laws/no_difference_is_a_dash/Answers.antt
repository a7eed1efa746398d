use Rattle.play_laws.proofs.ListedDifferences.{no_difference_is_a_dash}
use Rattle.play_laws.proofs.difference_laws.no_difference_is_a_dash.Goals as goal

pub returns : goal.returns
returns c = no_difference_is_a_dash c.alike_states_are_the_same.ensures
