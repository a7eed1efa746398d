use Rattle.std.proofs.Common.{take}
use Rattle.std.specs.List.{flat_map}
use Rattle.base_text.specs.Text.{Tells}
use Rattle.map_graph.specs.Places.{role_label_line}
use Rattle.map_graph.proofs.nodes.put_roles.Given as goal

abbrev pub invariant-loop-role : goal.invariant-loop-role
invariant-loop-role l =
    Tells (flat_map (role_label_line l.cave l.place) (take l.role-index l.roles))
    l.initial.text l.text
