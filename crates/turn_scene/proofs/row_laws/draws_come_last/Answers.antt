use Rattle.turn_scene.proofs.FittingRows.{draws_come_last}
use Rattle.turn_scene.proofs.row_laws.draws_come_last.Goals as goal

pub returns : goal.returns
returns g c = draws_come_last _ _
