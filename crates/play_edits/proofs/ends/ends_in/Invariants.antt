-- what the remaining bytes give, after those that were read, is what the text gives
use Rattle.std.proofs.Common.{◌≡◌, ◌++◌, length}
use Rattle.play_edits.specs.Ends.{ends_from, ends_in, last_byte}
use Rattle.play_edits.proofs.ends.ends_in.Given as goal

abbrev pub invariant-loop-byte : goal.invariant-loop-byte
invariant-loop-byte l =
    (l.ends.items ++ ends_from l.last l.left ≡ ends_in l.text)
    × (last_byte l.last l.left ≡ last_byte 10 l.text)

abbrev pub decreases-loop-byte : goal.decreases-loop-byte
decreases-loop-byte l = length l.left
