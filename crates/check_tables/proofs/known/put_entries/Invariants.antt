use Rattle.std.proofs.Common.{take}
use Rattle.base_text.specs.Text.{Tells}
use Rattle.check_tables.specs.Known.{entry_lines}
use Rattle.check_tables.proofs.known.put_entries.Given as goal

abbrev pub invariant-loop-thing : goal.invariant-loop-thing
invariant-loop-thing g l =
    Tells (entry_lines (g.T.Entries.entry l.of) l.indent (take l.thing-index l.things))
    l.initial.text l.text
