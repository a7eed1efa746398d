-- The edge of two places between which ways lead.
use Rattle.std.specs.Prelude.{ℕ, Bool, ◌==◌, ◌||◌, ◌&&◌, not, nat_lt}
use Rattle.std.specs.Prelude.{if◌then◌else◌, List, [], ◌++◌, codes, length}
use Rattle.std.specs.Fmt.{decimal}
use Rattle.std.specs.List.{filter, flat_map}
use Rattle.cave_data.specs.CaveView.{CaveView}
use Rattle.map_ways.specs.Labels.{label_of}
use Rattle.map_ways.specs.Ways.{are_joined, ends_of_edges, is_way}
use Rattle.map_ways.specs.Regions.{is_one_of}
use Rattle.map_graph.specs.Places.{strength}
use Rattle.map_graph.specs.Stops.{Stops, is_way_taken}
use Rattle.map_ways.specs.WayTexts.{way_text}

-- what is written at an edge, line by line: each row, and then those of the way back
unfoldable pub edge_text : CaveView → ℕ → ℕ → List ℕ
edge_text cave from to =
    way_text cave [] from to
    ++ (if from == to then [] else way_text cave (codes " /") to from)

-- the way leads there, and plays took it
abbrev pub is_taken : CaveView → Stops → ℕ → ℕ → Bool
is_taken cave stops from to = is_way cave from to && is_way_taken cave stops from to

-- plays took a way of the edge
abbrev pub is_edge_taken : CaveView → Stops → ℕ → ℕ → Bool
is_edge_taken cave stops from to = is_taken cave stops from to || is_taken cave stops to from

-- the head where a way ends: it is hollow if plays took only the other way
unfoldable pub head : Bool → Bool → Bool → List ℕ
head is_end is_reached is_left =
    if not is_end then codes "none"
    else (if is_left && not is_reached then codes "empty" else codes "normal")

abbrev pub head_at : CaveView → Stops → ℕ → ℕ → List ℕ
head_at cave stops from to =
    head (is_way cave from to) (is_taken cave stops from to) (is_taken cave stops to from)

-- the head at the lower place; a way from a place to itself has one head
abbrev pub head_back : CaveView → Stops → ℕ → ℕ → List ℕ
head_back cave stops from to = if from == to then codes "none" else head_at cave stops to from

-- how thickly an edge is drawn
abbrev pub edge_strength : CaveView → Stops → ℕ → ℕ → ℕ → List ℕ
edge_strength cave stops logs from to = strength logs (is_edge_taken cave stops from to)

-- how the line of an edge with a label begins: with the label, which is a node that both parts of
-- the edge meet, as only the layout of nodes keeps labels apart
abbrev pub edge_opening : ℕ → ℕ → List ℕ
edge_opening from to =
    codes "  " ++ (decimal from ++ (codes "." ++ (decimal to ++ codes " [label=")))

-- the part of an edge from its place to its label
abbrev pub part_to_label : ℕ → ℕ → List ℕ → List ℕ → List ℕ
part_to_label from to head strong =
    codes "]; " ++ (decimal from ++ (codes " -> " ++ (decimal from ++ (codes "."
    ++ (decimal to ++ (codes " [arrowtail=" ++ (head ++ strong)))))))

abbrev pub part_from_label : ℕ → ℕ → List ℕ → List ℕ → List ℕ
part_from_label from to head strong =
    codes "]; " ++ (decimal from ++ (codes "." ++ (decimal to ++ (codes " -> "
    ++ (decimal to ++ (codes " [arrowhead=" ++ (head ++ (strong ++ codes "];\n"))))))))

abbrev pub edge_parts : CaveView → Stops → ℕ → ℕ → ℕ → List ℕ
edge_parts cave stops logs from to =
    part_to_label from to (head_back cave stops from to) (edge_strength cave stops logs from to)
    ++ part_from_label from to (head_at cave stops from to) (edge_strength cave stops logs from to)

-- a label without a text takes no room
abbrev pub label_look : List ℕ → List ℕ
label_look text =
    if length text == 0 then codes ", shape=point, width=0.01, style=invis" else []

-- the line of an edge whose text is drawn
unfoldable pub labelled_edge : CaveView → Stops → ℕ → ℕ → ℕ → List ℕ
labelled_edge cave stops logs from to =
    edge_opening from to
    ++ (label_of (edge_text cave from to)
    ++ (label_look (edge_text cave from to)
    ++ (edge_strength cave stops logs from to ++ edge_parts cave stops logs from to)))

-- how the line of an edge begins that has its text on hover
abbrev pub plain_opening : ℕ → ℕ → List ℕ → List ℕ → List ℕ
plain_opening from to tail head =
    codes "  " ++ (decimal from ++ (codes " -> " ++ (decimal to ++ (codes " [len=3, arrowtail="
    ++ (tail ++ (codes ", arrowhead=" ++ (head ++ codes ", tooltip=")))))))

-- the line of an edge that has its text on hover
unfoldable pub plain_edge : CaveView → Stops → ℕ → ℕ → ℕ → List ℕ
plain_edge cave stops logs from to =
    plain_opening from to (head_back cave stops from to) (head_at cave stops from to)
    ++ (label_of (edge_text cave from to)
    ++ (edge_strength cave stops logs from to ++ codes "];\n"))

-- the line of an edge
abbrev pub edge : CaveView → Stops → ℕ → Bool → ℕ → ℕ → List ℕ
edge cave stops logs is_plain from to =
    if is_plain then plain_edge cave stops logs from to
    else labelled_edge cave stops logs from to

-- of places that are drawn, an edge is drawn, or only if plays took a way of it
abbrev pub is_shown : CaveView → Stops → Bool → ℕ → ℕ → Bool
is_shown cave stops seen from to = not seen || is_edge_taken cave stops from to

-- the most edges of a place at which texts leave room for the places
abbrev pub MAX_EDGES_WITH_TEXT : ℕ
MAX_EDGES_WITH_TEXT = 6

-- there is an edge between two places, and if they are drawn it is drawn, too
unfoldable pub is_drawn_between : CaveView → Stops → Bool → ℕ → ℕ → Bool
is_drawn_between cave stops seen place other =
    are_joined cave place other && is_shown cave stops seen place other

abbrev pub count_drawn : CaveView → Stops → Bool → List ℕ → ℕ → ℕ
count_drawn cave stops seen places place =
    length (filter (is_drawn_between cave stops seen place) places)

-- the place has more edges to places that are drawn than that
abbrev pub is_crowded : CaveView → Stops → Bool → List ℕ → ℕ → Bool
is_crowded cave stops seen places place =
    nat_lt MAX_EDGES_WITH_TEXT (count_drawn cave stops seen places place)

-- the edge from one place to another, if it is drawn; between two crowded places it is plain
abbrev pub drawn_edge : CaveView → Stops → ℕ → Bool → List ℕ → ℕ → ℕ → List ℕ
drawn_edge cave stops logs seen places from to =
    if is_one_of places to && is_shown cave stops seen from to
    then edge cave stops logs
    (is_crowded cave stops seen places from && is_crowded cave stops seen places to) from to
    else []

-- the edges of a place that are drawn
abbrev pub edges : CaveView → Stops → ℕ → Bool → List ℕ → ℕ → List ℕ
edges cave stops logs seen places from =
    flat_map (drawn_edge cave stops logs seen places from) (ends_of_edges cave from)
