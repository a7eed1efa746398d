use Rattle.std.proofs.Common.{arith}
use Rattle.replay_edits.proofs.ChunkLemmas.{numbers_in-push_last}
use Rattle.replay_edits.proofs.chunks.push_number.Goals as goal

pub returns-then-len-lt-HALF_CHUNK-clause-numbers : goal.returns-then-len-lt-HALF_CHUNK-clause-numbers
returns-then-len-lt-HALF_CHUNK-clause-numbers c =
    numbers_in-push_last c.args.chunks.now.items _ c.args.number c.index_mut.result.now
    c.push.new.self (omega arith) c.index_mut.ensures.value c.in_ok-push.ensures.items
