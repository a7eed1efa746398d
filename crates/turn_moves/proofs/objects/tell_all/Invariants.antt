use Rattle.std.proofs.Common.{◌≡◌, ◌+◌, ◌≤◌, drop}
use Rattle.arrayvec.specs.ArrayVec.{array_vec_len}
use Rattle.turn_scene.specs.Scene.{cave_of, scene_of, GoesOn}
use Rattle.turn_moves.specs.Objects.{after_all_objects}
use Rattle.turn_moves.proofs.objects.tell_all.Given as goal

-- describing the rest is describing all, and there is room for it
abbrev pub invariant-loop-half : goal.invariant-loop-half
invariant-loop-half g l =
    (after_all_objects (cave_of l.rules) (drop l.half-index l.halves)
    (scene_of g.N.RowNotes.rows l.scene)
    ≡ after_all_objects (cave_of l.rules) l.halves (scene_of g.N.RowNotes.rows l.initial.scene))
    × (array_vec_len l.scene.out.now ≤ array_vec_len l.initial.scene.out.now + l.half-index)
    × GoesOn l.initial.scene l.scene
