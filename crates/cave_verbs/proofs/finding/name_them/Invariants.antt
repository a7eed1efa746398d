use Rattle.std.proofs.Common.{◌≡◌, ◌+◌, ◌≤◌, take}
use Rattle.arrayvec.specs.ArrayVec.{array_vec_len}
use Rattle.turn_scene.specs.Scene.{scene_of, GoesOn}
use Rattle.cave_verbs.specs.Finding.{after_naming}
use Rattle.cave_verbs.proofs.finding.name_them.Given as goal

-- the objects before here are named
abbrev pub invariant-loop-object : goal.invariant-loop-object
invariant-loop-object g l =
    (scene_of g.N.RowNotes.rows l.scene ≡ after_naming (take l.object-index l.objects)
    (scene_of g.N.RowNotes.rows l.initial.scene))
    × GoesOn l.initial.scene l.scene
    × (array_vec_len l.scene.out.now ≤ array_vec_len l.initial.scene.out.now + l.object-index)
