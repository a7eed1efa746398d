use Rattle.turn_scene.proofs.NotedRows.{last_row_is_noted}
use Rattle.turn_scene.proofs.row_laws.last_row_is_noted.Goals as goal

pub returns : goal.returns
returns g c = last_row_is_noted _ _
