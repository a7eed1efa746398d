use Rattle.std.proofs.Common.{take}
use Rattle.std.specs.List.{flat_map}
use Rattle.base_text.specs.Text.{Tells}
use Rattle.map_graph.specs.Places.{object_label_line}
use Rattle.map_graph.proofs.nodes.put_objects.Given as goal

abbrev pub invariant-loop-object : goal.invariant-loop-object
invariant-loop-object l =
    Tells (flat_map (object_label_line l.cave) (take l.object-index l.objects)) l.initial.text
    l.text
