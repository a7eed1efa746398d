use Rattle.std.proofs.Common.{arith}
use Rattle.turn_scene.specs.Scene.{cave_of, scene_of}
use Rattle.turn_moves.proofs.Carrying.{carried_no_further}
use Rattle.turn_moves.proofs.arrival.+follow_forced_motions.Goals as goal

pub returns-else-stop_at-clause-scene : goal.returns-else-stop_at-clause-scene
returns-else-stop_at-clause-scene g t c =
    carried_no_further c.args.scene.now.left (cave_of c.args.rules.now)
    (scene_of g.N.RowNotes.rows c.args.scene.now)
    _ _
    (omega arith) (rw c.number.ensures at c.set_forth-next.ensures.journey)
    c.stop_at.ensures.stop c.if-stop_at.false
