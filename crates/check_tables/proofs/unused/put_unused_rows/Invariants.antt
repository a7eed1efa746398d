use Rattle.std.proofs.Common.{take}
use Rattle.std.specs.List.{flat_map}
use Rattle.base_text.specs.Text.{Tells}
use Rattle.check_tables.specs.Unused.{unused_row}
use Rattle.check_tables.proofs.unused.put_unused_rows.Given as goal

abbrev pub invariant-loop-number : goal.invariant-loop-number
invariant-loop-number l =
    Tells (flat_map (unused_row l.cave) (take l.number-index l.numbers))
    l.initial.text l.text
