-- The part that is drawn, by the words of a command line.
use Rattle.std.specs.Prelude.{Option, None, Some, if◌then◌else◌}
use Rattle.cave_data.specs.CaveView.{CaveView}
use Rattle.cave_play.specs.Stages.{Stage, judging_stage}
use Rattle.cave_play.specs.declared.fault.PlayFault.{PlayFault}
use Rattle.cave_play.specs.declared.fault.PlayFault.TheVariants.{Unmapped}
use Rattle.map_graph.specs.declared.parts.DrawnPart.{DrawnPart}
use Rattle.map_ways.specs.Ways.{is_mapped}
use Rattle.map_ways.specs.declared.regions.Region.{Region}
use Rattle.play_command.specs.declared.line.MapPart.{MapPart}
use Rattle.play_command.specs.declared.line.Surroundings.{Surroundings}

abbrev pub region_of : Option Surroundings → Option Region
region_of None = None
region_of (Some around) = Some (record { place = around.place; ways = around.ways })

abbrev pub drawn_part : MapPart → DrawnPart
drawn_part part = record { seen = part.seen; around = region_of part.around }

-- the fault of a map around a place that isn't on it
abbrev pub place_fault : CaveView → Option Surroundings → Option PlayFault
place_fault cave None = None
place_fault cave (Some around) =
    if is_mapped cave around.place then None else Some (Unmapped around.place)

-- the place is judged in the cave, and nothing is read for it
abbrev pub place_stage : CaveView → MapPart → Stage
place_stage cave part = judging_stage (place_fault cave part.around)
