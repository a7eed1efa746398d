use Rattle.replay_edits.proofs.ChunkLemmas.{numbers_in-insert}
use Rattle.replay_edits.proofs.chunks.insert_number.Goals as goal

pub returns-then-len-clause-numbers : goal.returns-then-len-clause-numbers
returns-then-len-clause-numbers c =
    numbers_in-insert c.args.chunks.now.items c.args.place _ _ c.args.number
    c.index_mut.result.now c.insert.new.self
    (rw c.deref.ensures.value at c.find_place-index.ensures) c.index_mut.ensures.value
    c.in_ok-insert.ensures.items

pub returns-clause-numbers : goal.returns-clause-numbers
returns-clause-numbers c =
    let inserted =
    numbers_in-insert c.args.chunks.now.items c.args.place _ _ c.args.number
    c.index_mut.result.now c.insert.new.self
    (rw c.deref.ensures.value at c.find_place-index.ensures) c.index_mut.ensures.value
    c.in_ok-insert.ensures.items in
    rw (← inserted) c.halve.ensures.numbers
