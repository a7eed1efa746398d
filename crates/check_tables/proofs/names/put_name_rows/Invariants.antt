use Rattle.std.proofs.Common.{take}
use Rattle.std.specs.List.{flat_map}
use Rattle.base_text.specs.Text.{Tells}
use Rattle.check_tables.specs.Names.{name_row}
use Rattle.check_tables.proofs.names.put_name_rows.Given as goal

abbrev pub invariant-loop-name : goal.invariant-loop-name
invariant-loop-name l =
    Tells (flat_map (name_row l.cave) (take l.name-index l.names))
    l.initial.text l.text
