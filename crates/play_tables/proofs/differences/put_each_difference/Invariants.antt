use Rattle.std.proofs.Common.{take}
use Rattle.std.specs.List.{flat_map}
use Rattle.base_text.specs.Text.{Tells}
use Rattle.play_tables.specs.Differences.{difference_text}
use Rattle.play_tables.proofs.differences.put_each_difference.Given as goal

abbrev pub invariant-loop-kind : goal.invariant-loop-kind
invariant-loop-kind l =
    Tells (flat_map (difference_text l.before l.after) (take l.kind-index l.kinds))
    l.initial.text l.text
