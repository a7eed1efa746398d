-- Which part of a cave a map draws.
use Rattle.std.specs.Prelude.{ℕ, ◌||◌, not, List}
use Rattle.std.specs.List.{filter}
use Rattle.cave_data.specs.CaveView.{CaveView}
use Rattle.map_ways.specs.Regions.{places_around}
use Rattle.map_graph.specs.Stops.{Stops, is_visited}
use Rattle.map_graph.specs.declared.parts.DrawnPart.{DrawnPart}

-- the places that are drawn: those around a place, and of them only the ones that plays were at if
-- only what they saw is drawn
unfoldable pub drawn_places : CaveView → Stops → DrawnPart → List ℕ → List ℕ
drawn_places cave stops part mapped =
    filter (λ place. not part.seen || is_visited cave stops place)
    (places_around cave mapped part.around)
