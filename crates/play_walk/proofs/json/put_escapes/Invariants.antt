use Rattle.std.proofs.Common.{take}
use Rattle.std.specs.List.{flat_map}
use Rattle.base_text.specs.Text.{Tells}
use Rattle.play_walk.specs.Json.{string_escape}
use Rattle.play_walk.proofs.json.put_escapes.Given as goal

abbrev pub invariant-loop-byte : goal.invariant-loop-byte
invariant-loop-byte l =
    Tells (flat_map string_escape (take l.byte-index l.string)) l.initial.text l.text
