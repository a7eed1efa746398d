use Rattle.std.proofs.Common.{◌≡◌}
use Rattle.std.specs.List.{list_any}
use Rattle.turn_scene.specs.Scene.{cave_of, scene_of}
use Rattle.turn_scene.specs.Treasures.{treasures}
use Rattle.turn_dwarves.specs.Pirate.{is_carried_booty}
use Rattle.turn_dwarves.proofs.Treasures.{treasures_from}
use Rattle.turn_dwarves.proofs.booty.carries_booty.Given as goal

-- none of the treasures before this one is carried booty
abbrev pub invariant-loop-number : goal.invariant-loop-number
invariant-loop-number g l =
    list_any (is_carried_booty (cave_of l.rules) (scene_of g.N.RowNotes.rows l.scene))
    (treasures_from l.number)
    ≡ list_any (is_carried_booty (cave_of l.rules) (scene_of g.N.RowNotes.rows l.scene)) treasures
