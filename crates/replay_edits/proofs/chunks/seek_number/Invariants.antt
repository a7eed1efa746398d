use Rattle.std.proofs.Common.{◌≡◌, ◌+◌, length, take}
use Rattle.replay_edits.specs.Chunks.{numbers_in}
use Rattle.replay_edits.proofs.chunks.seek_number.Given as goal

abbrev pub invariant-loop-chunk : goal.invariant-loop-chunk
invariant-loop-chunk l =
    l.past + length (numbers_in (take l.chunk-index l.chunks)) ≡ l.place
