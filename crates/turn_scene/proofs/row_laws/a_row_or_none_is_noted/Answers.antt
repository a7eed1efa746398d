use Rattle.turn_scene.proofs.NotedRows.{a_row_or_none_is_noted}
use Rattle.turn_scene.proofs.row_laws.a_row_or_none_is_noted.Goals as goal

pub returns : goal.returns
returns g c = a_row_or_none_is_noted _ _
