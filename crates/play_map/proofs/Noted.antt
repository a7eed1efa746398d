-- What is noted of the plays of logs are their stops.
use Rattle.std.proofs.Common.{◌≡◌, ℕ, List, ◌++◌, length, ap, ◌∙◌}
use Rattle.std.specs.Str.Lines.{lines}
use Rattle.std.proofs.lemmas.List.{length-map}
use Rattle.std.proofs.lemmas.List.Folds.{flat_map-map}
use Rattle.cave_data.specs.CaveView.{CaveView}
use Rattle.cave_play.specs.Logs.{games_of}
use Rattle.map_graph.specs.Map.{map_of_places}
use Rattle.map_graph.specs.Stops.{Stops, all_stops, no_stops, with_stops}
use Rattle.map_graph.specs.declared.stops.Stop.{Stop}
use Rattle.map_graph.proofs.StopLemmas.{stops_in_turn}
use Rattle.play_command.specs.declared.line.MapPart.{MapPart}
use Rattle.play_map.specs.Parts.{drawn_part}
use Rattle.play_map.specs.Plays.{map_of_games, map_text, stops_in, stops_in_all}
use Rattle.replay_edits.specs.Edit.{game_of}

-- the map of the games of logs is that of the logs
pub map_of_logs : (cave : CaveView) (logs : List (List ℕ)) (seed : ℕ) (part : MapPart)
    → map_of_games cave part (games_of seed logs) ≡ map_text cave seed part logs
map_of_logs cave logs seed part =
    let game = λ (log : List ℕ). game_of seed (lines log) in
    ap (λ stops. map_of_places cave (all_stops stops) (drawn_part part) (length (games_of seed logs)))
    (flat_map-map (stops_in cave) game logs)
    ∙ ap (map_of_places cave (all_stops (stops_in_all cave seed logs)) (drawn_part part))
    (length-map logs game)

-- what was noted, with more stops
pub more_stops : (noted more : List Stop) (old new : Stops) → old ≡ all_stops noted
    → new ≡ with_stops old more → new ≡ all_stops (noted ++ more)
more_stops noted more old new was now =
    now ∙ ap (λ stops. with_stops stops more) was ∙ stops_in_turn no_stops noted more
