use Rattle.std.proofs.Common.{take}
use Rattle.base_text.specs.Text.{Tells}
use Rattle.play_tables.specs.Columns.{without_tabs}
use Rattle.play_tables.proofs.columns.put_without_tabs.Given as goal

abbrev pub invariant-loop-byte : goal.invariant-loop-byte
invariant-loop-byte l =
    Tells (without_tabs (take l.byte-index l.line)) l.initial.text l.text
