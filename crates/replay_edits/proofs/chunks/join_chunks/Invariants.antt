use Rattle.std.proofs.Common.{◌≡◌, take}
use Rattle.replay_edits.specs.Chunks.{numbers_in}
use Rattle.replay_edits.proofs.chunks.join_chunks.Given as goal

abbrev pub invariant-loop-chunk : goal.invariant-loop-chunk
invariant-loop-chunk l = l.all.items ≡ numbers_in (take l.chunk-index l.chunks)
