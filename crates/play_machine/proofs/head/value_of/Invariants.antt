-- The option doesn't stand before what is left.
use Rattle.std.proofs.Common.{◌≡◌, length}
use Rattle.data_rows.specs.Fields.{fields}
use Rattle.play_machine.specs.Head.{value_of}
use Rattle.play_machine.proofs.head.value_of.Given as goal

abbrev pub invariant-loop-word : goal.invariant-loop-word
invariant-loop-word l =
    value_of l.fn.name l.fn.letter (fields l.rest)
    ≡ value_of l.fn.name l.fn.letter (fields l.fn.text)

abbrev pub decreases-loop-word : goal.decreases-loop-word
decreases-loop-word l = length l.rest
