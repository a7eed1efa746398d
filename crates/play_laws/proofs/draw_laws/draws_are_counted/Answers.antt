use Rattle.play_laws.proofs.Period.{draws_counted}
use Rattle.play_laws.proofs.draw_laws.draws_are_counted.Goals as goal

pub returns : goal.returns
returns c = draws_counted
