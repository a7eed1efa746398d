-- The parts of a state that rules change.
use Rattle.cave_world.specs.declared.state.Tallies.{Tallies}
use Rattle.cave_world.specs.declared.talk.Talk.{Talk}
use Rattle.cave_world.specs.declared.lamp.Lamp.{Lamp}
use Rattle.cave_world.specs.declared.dwarves.Dwarves.{Dwarves}
use Rattle.cave_world.specs.declared.closing.Closing.{Closing}
use Rattle.std.specs.Prelude.{◌+◌, min}
use Rattle.world_objects.specs.Objects.{Layout}
use Rattle.cave_world.specs.State.{MAX_LOST}
use Rattle.cave_world.specs.declared.state.State.{State}

-- one part of a state is replaced
abbrev pub with_closing : Closing → State → State
with_closing closing s = record s { closing = closing }

abbrev pub with_dwarves : Dwarves → State → State
with_dwarves dwarves s = record s { dwarves = dwarves }

abbrev pub with_lamp : Lamp → State → State
with_lamp lamp s = record s { lamp = lamp }

abbrev pub with_talk : Talk → State → State
with_talk talk s = record s { talk = talk }

abbrev pub with_tallies : Tallies → State → State
with_tallies tallies s = record s { tallies = tallies }

abbrev pub with_objects : Layout → State → State
with_objects o s = record s { objects = o }

-- one more treasure is lost
abbrev pub with_one_more_lost : State → State
with_one_more_lost s =
    with_tallies (record (s.tallies) { lost = min (s.tallies.lost + 1) MAX_LOST }) s
