use Rattle.std.proofs.Common.{◌≡◌, ◌+◌, map, drop}
use Rattle.cave_data.specs.CaveView.{class_from}
use Rattle.cave_data.specs.Printing.{printed_class}
use Rattle.cave_data.specs.Spans.{class_of_span}
use Rattle.cave_data.proofs.classes.Classes.class_of.Given as goal

abbrev pub invariant-loop-number : goal.invariant-loop-number
invariant-loop-number l =
    class_from (l.number + 1) l.score
    (drop l.number
    (map printed_class (map (class_of_span l.self-inside.store) l.self-inside.rows.items)))
    ≡ class_from 1 l.score
    (map printed_class (map (class_of_span l.self-inside.store) l.self-inside.rows.items))
