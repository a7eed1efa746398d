use Rattle.std.proofs.Common.{◌≡◌, ◌++◌, take}
use Rattle.std.specs.List.{flat_map}
use Rattle.check_doubts.specs.Doubts.{doubts_of_binding}
use Rattle.check_doubts.proofs.cave_doubts.push_bindings_doubts.Given as goal

abbrev pub invariant-loop-row : goal.invariant-loop-row
invariant-loop-row l =
    l.doubts.items ≡ l.initial.doubts.items
    ++ flat_map (doubts_of_binding l.cave) (take l.row-index l.rows)
