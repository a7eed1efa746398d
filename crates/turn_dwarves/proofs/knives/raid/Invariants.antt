use Rattle.std.proofs.Common.{◌≡◌}
use Rattle.turn_scene.specs.Bounds.{GoesOnSaying}
use Rattle.turn_scene.specs.Scene.{cave_of, scene_of}
use Rattle.turn_scene.specs.Rows.{deed}
use Rattle.turn_scene.specs.Effects.{for_each_from}
use Rattle.turn_dwarves.specs.Knives.{IsByUpTo, let_dwarf_act, no_attack}
use Rattle.turn_dwarves.proofs.knives.raid.Given as goal

-- the dwarves before this one acted
abbrev pub invariant-loop-number : goal.invariant-loop-number
invariant-loop-number g l = record {
  raid :
      deed (cave_of l.rules) l.attack (scene_of g.N.RowNotes.rows l.scene)
      ≡ for_each_from 0 l.number let_dwarf_act
      (deed (cave_of l.rules) no_attack (scene_of g.N.RowNotes.rows l.initial.scene));
  says : GoesOnSaying 0 l.initial.scene l.scene;
  few : IsByUpTo l.number l.attack;
}
