use Rattle.std.proofs.Common.{arith}
use Rattle.replay_edits.proofs.ChunkLemmas.{number_sought}
use Rattle.replay_edits.proofs.chunks.seek_number.Goals as goal

pub returns-then-past-len : goal.returns-then-past-len
returns-then-past-len c =
    number_sought c.args.chunks.now c.args.place c.loop-chunk.chunk-index c.loop-chunk.past _
    c.chunk-item.result (omega arith) (omega (arith, c.loop-chunk.invariant)) c.chunk-item.is
    (omega (arith, c.if-past-len.true, c.len.ensures)) c.index.ensures
