-- The stops of the plays of logs, and the map with what they saw.
use Rattle.std.specs.Prelude.{◌≡◌, ℕ, List, [], ◌∷◌, ◌++◌, length, Option, Result}
use Rattle.std.specs.List.{flat_map}
use Rattle.std.specs.Str.Lines.{lines}
use Rattle.cave_data.specs.CaveView.{CaveView}
use Rattle.cave_data.specs.Reads.{Reads}
use Rattle.cave_play.specs.Logs.{IsMadeReport, JudgesLogs, at_none, first_stages}
use Rattle.cave_play.specs.declared.output.Reported.{Reported}
use Rattle.cave_play.specs.declared.logs.LogsFault.{LogsFault}
use Rattle.play_machine.specs.Moments.{Moment, noted_of}
use Rattle.cave_world.specs.declared.part.Part.{Part}
use Rattle.cave_world.specs.declared.state.State.{State}
use Rattle.replay_edits.specs.Edit.{Game, game_of}
use Rattle.map_graph.specs.Map.{map_of_places}
use Rattle.map_graph.specs.Stops.{all_stops, ways_by_rows}
use Rattle.play_command.specs.declared.line.MapPart.{MapPart}
use Rattle.play_map.specs.Parts.{drawn_part, place_stage}
use Rattle.map_graph.specs.declared.stops.Stop.{Stop}
use Rattle.map_graph.specs.declared.stops.Stop.TheVariants.{InState}
use Rattle.std.specs.List.Sorted.{IsPermutation}
use Rattle.cave_play.specs.Stages.{AtMostOne, Leaves, Stage}
use Rattle.cave_play.specs.declared.fault.PlayFault.TheVariants.{Write}

-- the stops of a line: the state after it, and the ways by which the player went
abbrev pub stops_at : Moment → List Stop
stops_at moment =
    InState moment.before.trail.here moment.after.trail.here ∷ ways_by_rows moment.rows

-- no place is before the first state
abbrev pub first_stop : State → Stop
first_stop begun = InState 0 begun.trail.here

-- the stops of playing a game: at its first state, and of each line
abbrev pub stops_in : CaveView → Game → List Stop
stops_in cave game =
    noted_of (λ cave begun (greeting : List Part). first_stop begun ∷ [])
    (λ cave moment. stops_at moment) cave game

-- the map of a part of a cave with what the plays of games saw of it
abbrev pub map_of_games : CaveView → MapPart → List Game → List ℕ
map_of_games cave part games =
    map_of_places cave (all_stops (flat_map (stops_in cave) games)) (drawn_part part) (length games)

abbrev pub stops_in_log : CaveView → ℕ → List ℕ → List Stop
stops_in_log cave seed log = stops_in cave (game_of seed (lines log))

-- the stops if each log is played by itself
abbrev pub stops_in_all : CaveView → ℕ → List (List ℕ) → List Stop
stops_in_all cave seed logs = flat_map (stops_in_log cave seed) logs

abbrev pub map_text : CaveView → ℕ → MapPart → List (List ℕ) → List ℕ
map_text cave seed part logs =
    map_of_places cave (all_stops (stops_in_all cave seed logs)) (drawn_part part) (length logs)

-- the output is the map of the logs in the cave of the database and its bindings
abbrev pub IsMapped : List ℕ → List ℕ → List (List ℕ) → ℕ → MapPart → List ℕ → Type 0
IsMapped database bindings logs seed part output =
    (cave : CaveView) × Reads database bindings cave × (output ≡ map_text cave seed part logs)

-- the stage judges the place in the middle of a part, in the cave of the database and its bindings
abbrev pub JudgesPlace : List ℕ → List ℕ → MapPart → Stage → Type 0
JudgesPlace database bindings part judges =
    (cave : CaveView) → Reads database bindings cave → judges ≡ place_stage cave part

-- what is made that is a map: after the cave the place in the middle is judged, and then the logs are
abbrev pub JudgesMap : List ℕ → List ℕ → List (List ℕ) → ℕ → MapPart
    → Result (Reported (Unit {0})) LogsFault → Type 0
JudgesMap database bindings logs seed part made =
    (judges : Stage) → JudgesPlace database bindings part judges
    → JudgesLogs (first_stages database bindings seed ++ judges ∷ []) logs
    (IsMadeReport (λ _. IsMapped database bindings logs seed part)) made

-- what a run leaves that draws a map
abbrev pub RunsMap : List ℕ → List ℕ → List (List ℕ) → ℕ → MapPart
    → Option (List ℕ) → Option (List ℕ) → Result (Unit {0}) LogsFault → Type 0
RunsMap database bindings logs seed part old new ended =
    Leaves (at_none Write) (JudgesMap database bindings logs seed part) old new ended

-- the order of the logs changes no byte of a map
abbrev pub OrderOfLogsIsNothing : Type 0
OrderOfLogsIsNothing =
    (cave : CaveView) (seed : ℕ) (part : MapPart) (logs others : List (List ℕ))
    → IsPermutation logs others → map_text cave seed part others ≡ map_text cave seed part logs

-- a database with its bindings, logs and a seed have at most one map
abbrev pub OneMap : Type 0
OneMap =
    (database bindings : List ℕ) (logs : List (List ℕ)) (seed : ℕ) (part : MapPart)
    → AtMostOne (IsMapped database bindings logs seed part)
