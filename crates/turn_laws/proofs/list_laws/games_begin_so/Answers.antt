use Rattle.turn_laws.proofs.OneList.{games_begin_so}
use Rattle.turn_laws.proofs.list_laws.games_begin_so.Goals as goal

pub returns : goal.returns
returns c = games_begin_so
