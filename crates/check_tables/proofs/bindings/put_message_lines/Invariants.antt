use Rattle.std.proofs.Common.{take}
use Rattle.std.specs.List.{flat_map}
use Rattle.base_text.specs.Text.{Tells}
use Rattle.check_tables.specs.Bindings.{message_line}
use Rattle.check_tables.proofs.bindings.put_message_lines.Given as goal

abbrev pub invariant-loop-role : goal.invariant-loop-role
invariant-loop-role l =
    Tells (flat_map (message_line l.cave) (take l.role-index l.roles)) l.initial.text l.text
