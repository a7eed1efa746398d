-- The map of a cave as a graph, and what plays saw of it.
use Rattle.std.specs.Prelude.{ℕ, Bool, ◌==◌, if◌then◌else◌, List, [], ◌++◌, length, codes, ◌≡◌}
use Rattle.std.specs.Prelude.{true}
use Rattle.std.specs.List.{filter, flat_map, sum_by}
use Rattle.cave_data.specs.CaveView.{CaveView}
use Rattle.map_graph.specs.Captions.{caption, seen_words}
use Rattle.map_graph.specs.Edges.{edges, edge}
use Rattle.map_graph.specs.Parts.{drawn_places}
use Rattle.map_ways.specs.Regions.{ends_among, places_around}
use Rattle.map_graph.specs.Places.{node}
use Rattle.map_graph.specs.Stops.{Stops, is_way_taken, is_visited}
use Rattle.map_ways.specs.Ways.{mapped_places}
use Rattle.map_graph.specs.declared.captions.SeenCounts.{SeenCounts}
use Rattle.map_graph.specs.declared.parts.DrawnPart.{DrawnPart}
use Rattle.map_ways.specs.Labels.{is_one_line}

-- each node is one line
abbrev pub NodesAreLines : Type 0
NodesAreLines =
    (cave : CaveView) (mapped : List ℕ) (stops : Stops) (logs place : ℕ)
    → is_one_line (node cave mapped stops logs place) ≡ true

-- each edge is one line
abbrev pub EdgesAreLines : Type 0
EdgesAreLines =
    (cave : CaveView) (stops : Stops) (logs : ℕ) (is_plain : Bool) (from to : ℕ)
    → is_one_line (edge cave stops logs is_plain from to) ≡ true

-- how the graph begins: with its layout, with its page, which is one A3, and with how places and
-- edges look if they don't say so
unfoldable pub graph_opening : List ℕ
graph_opening =
    codes "digraph cave {\n"
    ++ (codes "  graph [layout=neato, overlap=false, sep=\"+2\", splines=line, bgcolor=white];\n"
    ++ (codes "  graph [outputorder=edgesfirst, size=\"16.5,11.6\", margin=0, pad=0.3];\n"
    ++ (codes "  node [shape=box, width=0.1, height=0.1, margin=\"0.04,0.03\"];\n"
    ++ (codes "  node [style=filled, fillcolor=white, fontname=\"Helvetica\", fontsize=10];\n"
    ++ codes "  edge [dir=both, arrowsize=0.4, arrowtail=none, arrowhead=none];\n"))))

-- how the labels of edges, which follow the places, look
unfoldable pub labels_opening : List ℕ
labels_opening = codes "  node [shape=plaintext, margin=0];\n"

-- the places, of some, to which plays took a way from one
unfoldable pub ends_taken : CaveView → Stops → List ℕ → ℕ → List ℕ
ends_taken cave stops places from =
    filter (is_way_taken cave stops from) (ends_among cave places from)

unfoldable pub places_visited : CaveView → Stops → List ℕ → List ℕ
places_visited cave stops places = filter (is_visited cave stops) places

-- how many ways between some places plays took
unfoldable pub count_taken : CaveView → Stops → List ℕ → ℕ
count_taken cave stops places = sum_by (λ from. length (ends_taken cave stops places from)) places

unfoldable pub count_ways : CaveView → List ℕ → ℕ
count_ways cave places = sum_by (λ from. length (ends_among cave places from)) places

-- how many of some places, and of the ways between them, plays saw
unfoldable pub seen_counts : CaveView → Stops → List ℕ → SeenCounts
seen_counts cave stops places = record {
  visited = length (places_visited cave stops places);
  places = length places;
  taken = count_taken cave stops places;
  ways = count_ways cave places;
}

-- the line that sums up what plays saw, if there were logs
abbrev pub sums : SeenCounts → ℕ → List ℕ
sums counts logs =
    if logs == 0 then [] else codes "// -- " ++ (seen_words counts logs ++ codes "\n")

abbrev pub nodes_and_edges : CaveView → List ℕ → Stops → ℕ → Bool → List ℕ → List ℕ
nodes_and_edges cave mapped stops logs seen places =
    flat_map (node cave mapped stops logs) places
    ++ (labels_opening ++ flat_map (edges cave stops logs seen places) places)

-- how many of the places around one, or of all, plays saw
abbrev pub counts_around : CaveView → List ℕ → Stops → DrawnPart → SeenCounts
counts_around cave mapped stops part =
    seen_counts cave stops (places_around cave mapped part.around)

-- the part of a map that is drawn, with what stands above it
unfoldable pub drawing : CaveView → List ℕ → Stops → DrawnPart → ℕ → List ℕ
drawing cave mapped stops part logs =
    caption (counts_around cave mapped stops part) logs part
    ++ nodes_and_edges cave mapped stops logs part.seen (drawn_places cave stops part mapped)

-- the map, or a part of it, if plays of this many logs had these stops
unfoldable pub map_of_places : CaveView → Stops → DrawnPart → ℕ → List ℕ
map_of_places cave stops part logs =
    graph_opening
    ++ (drawing cave (mapped_places cave) stops part logs
    ++ (codes "}\n" ++ sums (counts_around cave (mapped_places cave) stops part) logs))
