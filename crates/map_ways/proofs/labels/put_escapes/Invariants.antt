use Rattle.std.proofs.Common.{take}
use Rattle.std.specs.List.{flat_map}
use Rattle.base_text.specs.Text.{Tells}
use Rattle.map_ways.specs.Labels.{escape_of}
use Rattle.map_ways.proofs.labels.put_escapes.Given as goal

abbrev pub invariant-loop-byte : goal.invariant-loop-byte
invariant-loop-byte l =
    Tells (flat_map escape_of (take l.byte-index l.label)) l.initial.text l.text
