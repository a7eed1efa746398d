-- Each node and each edge is one line.
use Rattle.std.proofs.Common.{◌≡◌, ℕ, Bool, true, false, refl, ◌∙◌, ◌++◌, cond, length, List}
use Rattle.std.specs.Prelude.{◌==◌, ◌&&◌, not, codes}
use Rattle.std.specs.Fmt.{decimal}
use Rattle.cave_data.specs.CaveView.{CaveView}
use Rattle.cave_world.specs.Sight.{LIGHT_BIT, has_condition, forced}
use Rattle.map_graph.specs.Edges.{edge_opening, edge_parts, edge_strength, edge_text, head, head_at}
use Rattle.map_graph.specs.Edges.{head_back, is_edge_taken, is_taken, label_look, labelled_edge}
use Rattle.map_graph.specs.Edges.{part_from_label, part_to_label, plain_edge, plain_opening}
use Rattle.map_ways.specs.Labels.{label_of, is_one_line, is_within_line}
use Rattle.map_graph.specs.Map.{EdgesAreLines, NodesAreLines}
use Rattle.map_graph.specs.Places.{look_of_place, node, node_opening, node_end, node_text}
use Rattle.map_graph.specs.Places.{nowhere_note, strength}
use Rattle.map_graph.specs.Stops.{Stops, is_visited}
use Rattle.map_ways.specs.Ways.{count_nowhere, is_way}
use Rattle.map_ways.proofs.LineLemmas.{both_within, decimal_within, line_after, label_within}

cond_within : (test : Bool) (a b : List ℕ) → is_within_line a ≡ true → is_within_line b ≡ true
    → is_within_line (cond test a b) ≡ true
cond_within true a b first second = first
cond_within false a b first second = second

look_within : (cave : CaveView) (place : ℕ) → is_within_line (look_of_place cave place) ≡ true
unfolding look_of_place
look_within cave place =
    cond_within (forced cave place) _ _ refl
    (cond_within (has_condition cave place LIGHT_BIT) _ _ refl refl)

strength_within : (logs : ℕ) (is_reached : Bool) → is_within_line (strength logs is_reached) ≡ true
unfolding strength
strength_within logs is_reached =
    cond_within (logs == 0) _ _ refl (cond_within is_reached _ _ refl refl)

note_within : (count : ℕ) → is_within_line (nowhere_note count) ≡ true
note_within count =
    cond_within (count == 0) _ _ refl
    (both_within (codes " // ways not drawn: ") (decimal count) refl (decimal_within count))

label_look_within : (text : List ℕ) → is_within_line (label_look text) ≡ true
label_look_within text = cond_within (length text == 0) _ _ refl refl

head_within : (is_end is_reached is_left : Bool)
    → is_within_line (head is_end is_reached is_left) ≡ true
unfolding head
head_within is_end is_reached is_left =
    cond_within (not is_end) _ _ refl (cond_within (is_left && not is_reached) _ _ refl refl)

module _ (cave : CaveView) (stops : Stops) where
  at_within : (from to : ℕ) → is_within_line (head_at cave stops from to) ≡ true
  at_within from to =
      head_within (is_way cave from to) (is_taken cave stops from to) (is_taken cave stops to from)

  back_within : (from to : ℕ) → is_within_line (head_back cave stops from to) ≡ true
  back_within from to = cond_within (from == to) _ _ refl (at_within to from)

end_is_one_line : (count : ℕ) → is_one_line (node_end count) ≡ true
end_is_one_line count =
    line_after (codes "];") (nowhere_note count ++ codes "\n") refl
    ∙ line_after (nowhere_note count) (codes "\n") (note_within count)

opening_within : (place : ℕ) → is_within_line (node_opening place) ≡ true
opening_within place =
    both_within (codes "  ") (decimal place ++ codes " [label=") refl
    (both_within (decimal place) (codes " [label=") (decimal_within place) refl)

pub nodes_are_lines : NodesAreLines
unfolding node
nodes_are_lines cave mapped stops logs place =
    line_after (node_opening place) _ (opening_within place)
    ∙ line_after (label_of (node_text cave mapped stops place)) _
    (label_within (node_text cave mapped stops place))
    ∙ line_after (look_of_place cave place) _ (look_within cave place)
    ∙ line_after (strength logs (is_visited cave stops place)) (node_end (count_nowhere cave place))
    (strength_within logs (is_visited cave stops place))
    ∙ end_is_one_line (count_nowhere cave place)

number_within : (n : ℕ) (more : List ℕ) → is_within_line more ≡ true
    → is_within_line (decimal n ++ more) ≡ true
number_within n more within = both_within (decimal n) more (decimal_within n) within

ends_within : (from to : ℕ) → is_within_line (edge_opening from to) ≡ true
ends_within from to =
    let end = decimal to ++ codes " [label=" in
    both_within (codes "  ") (decimal from ++ (codes "." ++ end)) refl
    (number_within from (codes "." ++ end)
    (both_within (codes ".") end refl (number_within to (codes " [label=") refl)))

to_label_within : (from to : ℕ) (head strong : List ℕ) → is_within_line head ≡ true
    → is_within_line strong ≡ true → is_within_line (part_to_label from to head strong) ≡ true
to_label_within from to head strong first second =
    let look = codes " [arrowtail=" ++ (head ++ strong) in
    let end = decimal to ++ look in
    let label = decimal from ++ (codes "." ++ end) in
    both_within (codes "]; ") (decimal from ++ (codes " -> " ++ label)) refl
    (number_within from (codes " -> " ++ label)
    (both_within (codes " -> ") label refl
    (number_within from (codes "." ++ end)
    (both_within (codes ".") end refl
    (number_within to look
    (both_within (codes " [arrowtail=") (head ++ strong) refl
    (both_within head strong first second)))))))

from_label_is_one_line : (from to : ℕ) (head strong : List ℕ) → is_within_line head ≡ true
    → is_within_line strong ≡ true → is_one_line (part_from_label from to head strong) ≡ true
from_label_is_one_line from to head strong first second =
    let end = strong ++ codes "];\n" in
    let look = codes " [arrowhead=" ++ (head ++ end) in
    let other = codes " -> " ++ (decimal to ++ look) in
    let label = codes "." ++ (decimal to ++ other) in
    line_after (codes "]; ") (decimal from ++ label) refl
    ∙ line_after (decimal from) label (decimal_within from)
    ∙ line_after (codes ".") (decimal to ++ other) refl
    ∙ line_after (decimal to) other (decimal_within to)
    ∙ line_after (codes " -> ") (decimal to ++ look) refl
    ∙ line_after (decimal to) look (decimal_within to)
    ∙ line_after (codes " [arrowhead=") (head ++ end) refl
    ∙ line_after head end first
    ∙ line_after strong (codes "];\n") second

module _ (cave : CaveView) (stops : Stops) (logs from to : ℕ) where
  edge_strength_within : is_within_line (edge_strength cave stops logs from to) ≡ true
  edge_strength_within = strength_within logs (is_edge_taken cave stops from to)

  parts_are_one_line : is_one_line (edge_parts cave stops logs from to) ≡ true
  parts_are_one_line =
      let look = edge_strength cave stops logs from to in
      let back = head_back cave stops from to in
      let there = head_at cave stops from to in
      line_after (part_to_label from to back look) (part_from_label from to there look)
      (to_label_within from to back look (back_within cave stops from to) edge_strength_within)
      ∙ from_label_is_one_line from to there look (at_within cave stops from to)
      edge_strength_within

  labelled_is_line : is_one_line (labelled_edge cave stops logs from to) ≡ true
  unfolding labelled_edge
  labelled_is_line =
      line_after (edge_opening from to) _ (ends_within from to)
      ∙ line_after (label_of (edge_text cave from to)) _ (label_within (edge_text cave from to))
      ∙ line_after (label_look (edge_text cave from to)) _
      (label_look_within (edge_text cave from to))
      ∙ line_after (edge_strength cave stops logs from to) (edge_parts cave stops logs from to)
      edge_strength_within
      ∙ parts_are_one_line

  plain_within : (tail head : List ℕ) → is_within_line tail ≡ true → is_within_line head ≡ true
      → is_within_line (plain_opening from to tail head) ≡ true
  plain_within tail head first second =
      let heads = head ++ codes ", tooltip=" in
      let more = tail ++ (codes ", arrowhead=" ++ heads) in
      let end = decimal to ++ (codes " [len=3, arrowtail=" ++ more) in
      both_within (codes "  ") (decimal from ++ (codes " -> " ++ end)) refl
      (number_within from (codes " -> " ++ end)
      (both_within (codes " -> ") end refl
      (number_within to (codes " [len=3, arrowtail=" ++ more)
      (both_within (codes " [len=3, arrowtail=") more refl
      (both_within tail (codes ", arrowhead=" ++ heads) first
      (both_within (codes ", arrowhead=") heads refl
      (both_within head (codes ", tooltip=") second refl)))))))

  plain_is_line : is_one_line (plain_edge cave stops logs from to) ≡ true
  unfolding plain_edge
  plain_is_line =
      line_after (plain_opening from to (head_back cave stops from to) (head_at cave stops from to))
      _
      (plain_within (head_back cave stops from to) (head_at cave stops from to)
      (back_within cave stops from to) (at_within cave stops from to))
      ∙ line_after (label_of (edge_text cave from to)) _ (label_within (edge_text cave from to))
      ∙ line_after (edge_strength cave stops logs from to) (codes "];\n") edge_strength_within

pub edges_are_lines : EdgesAreLines
edges_are_lines cave stops logs true from to = plain_is_line cave stops logs from to
edges_are_lines cave stops logs false from to = labelled_is_line cave stops logs from to
