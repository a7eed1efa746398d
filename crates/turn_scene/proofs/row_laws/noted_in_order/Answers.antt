use Rattle.turn_scene.proofs.NotedRows.{noted_in_order}
use Rattle.turn_scene.proofs.row_laws.noted_in_order.Goals as goal

pub returns : goal.returns
returns g c = noted_in_order _ _
