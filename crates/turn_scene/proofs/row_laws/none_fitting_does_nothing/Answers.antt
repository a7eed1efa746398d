use Rattle.turn_scene.proofs.FittingRows.{none_fitting_does_nothing}
use Rattle.turn_scene.proofs.row_laws.none_fitting_does_nothing.Goals as goal

pub returns : goal.returns
returns g c = none_fitting_does_nothing _ _
