-- The node of a place.
use Rattle.std.specs.Prelude.{ℕ, pos, Bool, false, ◌==◌, ◌||◌, if◌then◌else◌, List, [], ◌++◌, codes}
use Rattle.std.specs.Prelude.{Option, None, Some}
use Rattle.std.specs.Fmt.{decimal}
use Rattle.std.specs.List.{filter, flat_map, range_with_len}
use Rattle.std.specs.FinMap as map
use Rattle.std.specs.Ordering.{int_eq}
use Rattle.cave_data.specs.CaveView.{CaveView, placement_of}
use Rattle.base_lines.specs.Numbers.{LAST_OBJECT}
use Rattle.data_rows.specs.PlaceRole.{each_place_role, place_name, place_number}
use Rattle.data_rows.specs.declared.place_role.PlaceRole.{PlaceRole}
use Rattle.cave_world.specs.Sight.{LIGHT_BIT, has_condition, forced}
use Rattle.map_ways.specs.Labels.{label_of}
use Rattle.check_tables.specs.WayWords.{word_or_number, number_of_object}
use Rattle.map_graph.specs.Stops.{Stops, is_visited}
use Rattle.map_ways.specs.Titles.{title}
use Rattle.map_ways.specs.Ways.{count_nowhere}

-- a half of the object is there as a game begins
abbrev pub begins_at : CaveView → ℕ → ℕ → Bool
begins_at cave place object =
    (placement_of cave object).first == place
    || int_eq (placement_of cave object).second (pos place)

unfoldable pub objects_beginning : CaveView → ℕ → List ℕ
objects_beginning cave place = filter (begins_at cave place) (range_with_len 1 LAST_OBJECT)

abbrev pub object_label_line : CaveView → ℕ → List ℕ
object_label_line cave object =
    codes "+" ++ (word_or_number cave (number_of_object object) ++ codes "\n")

abbrev pub is_number : Option ℕ → ℕ → Bool
is_number None number = false
is_number (Some found) number = found == number

abbrev pub role_label_line : CaveView → ℕ → PlaceRole → List ℕ
role_label_line cave place role =
    if is_number (map.get cave.places (place_number role)) place
    then codes "= " ++ (place_name role ++ codes "\n") else []

abbrev pub visits_label_line : ℕ → List ℕ
visits_label_line count =
    if count == 0 then [] else codes "visits " ++ (decimal count ++ codes "\n")

abbrev pub title_line : CaveView → List ℕ → ℕ → List ℕ
title_line cave mapped place = decimal place ++ (title cave mapped place ++ codes "\n")

-- what is written at a place where a player stays, line by line
unfoldable pub stay_text : CaveView → List ℕ → Stops → ℕ → List ℕ
stay_text cave mapped stops place =
    title_line cave mapped place
    ++ (flat_map (object_label_line cave) (objects_beginning cave place)
    ++ (flat_map (role_label_line cave place) each_place_role
    ++ visits_label_line (stops.visits place)))

-- what is written at a node, which for a place of a forced motion is only its number
unfoldable pub node_text : CaveView → List ℕ → Stops → ℕ → List ℕ
node_text cave mapped stops place =
    if forced cave place then decimal place else stay_text cave mapped stops place

-- a place of a forced motion is a small circle, and one without light is dark
unfoldable pub look_of_place : CaveView → ℕ → List ℕ
look_of_place cave place =
    if forced cave place then codes ", shape=circle, fixedsize=true, width=0.2, fontsize=7"
    else (if has_condition cave place LIGHT_BIT then []
    else codes ", fillcolor=gray80")

-- how a place or an edge is drawn: normally without logs; with logs thickly if they were there, and
-- otherwise grey
unfoldable pub strength : ℕ → Bool → List ℕ
strength logs is_reached =
    if logs == 0 then []
    else (if is_reached then codes ", penwidth=2.5"
    else codes ", color=gray65, fontcolor=gray40")

-- how many rows lead to no place, if any do, as a comment
abbrev pub nowhere_note : ℕ → List ℕ
nowhere_note count = if count == 0 then []
    else codes " // ways not drawn: " ++ decimal count

-- how the line of a node begins
abbrev pub node_opening : ℕ → List ℕ
node_opening place = codes "  " ++ (decimal place ++ codes " [label=")

-- how it ends
abbrev pub node_end : ℕ → List ℕ
node_end count = codes "];" ++ (nowhere_note count ++ codes "\n")

-- the line of a node
unfoldable pub node : CaveView → List ℕ → Stops → ℕ → ℕ → List ℕ
node cave mapped stops logs place =
    node_opening place
    ++ (label_of (node_text cave mapped stops place)
    ++ (look_of_place cave place
    ++ (strength logs (is_visited cave stops place) ++ node_end (count_nowhere cave place))))
