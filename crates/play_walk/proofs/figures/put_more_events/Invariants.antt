use Rattle.std.proofs.Common.{take}
use Rattle.std.specs.List.{flat_map}
use Rattle.base_text.specs.Text.{Tells}
use Rattle.turn_scene.specs.Scene.{cave_of}
use Rattle.play_walk.specs.Figures.{next_event}
use Rattle.play_walk.proofs.figures.put_more_events.Given as goal

abbrev pub invariant-loop-event : goal.invariant-loop-event
invariant-loop-event l =
    Tells (flat_map (next_event l.form (cave_of l.rules) l.before l.after)
    (take l.event-index l.events))
    l.initial.text l.text
