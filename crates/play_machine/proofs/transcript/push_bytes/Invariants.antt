-- The bytes so far are there, and there is room for the others.
use Rattle.std.proofs.Common.{◌≡◌, ◌+◌, ◌++◌, take}
use Rattle.std.specs.Prelude.{vec_capacity, vec_len}
use Rattle.play_machine.proofs.transcript.push_bytes.Given as goal

abbrev pub invariant-loop-byte : goal.invariant-loop-byte
invariant-loop-byte l =
    (l.text.items ≡ l.initial.text.items ++ take l.byte-index l.bytes)
    × (vec_len l.text ≡ vec_len l.initial.text + l.byte-index)
    × (vec_capacity l.text ≡ vec_capacity l.initial.text)
