use Rattle.turn_scene.proofs.FittingRows.{noted_by_number}
use Rattle.turn_scene.proofs.row_laws.noted_by_number.Goals as goal

pub returns : goal.returns
returns g c = noted_by_number _ _
