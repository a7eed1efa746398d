use Rattle.turn_scene.proofs.FittingRows.{first_fitting_applies}
use Rattle.turn_scene.proofs.row_laws.first_fitting_applies.Goals as goal

pub returns : goal.returns
returns g c = first_fitting_applies _ _
