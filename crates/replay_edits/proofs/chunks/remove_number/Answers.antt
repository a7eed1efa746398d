use Rattle.replay_edits.proofs.ChunkLemmas.{numbers_in-remove, number_at}
use Rattle.replay_edits.proofs.chunks.remove_number.Goals as goal

pub returns-clause-number : goal.returns-clause-number
returns-clause-number c =
    number_at c.args.chunks.now.items c.args.place _ _ c.remove.result c.index_mut.result.now
    (rw c.deref.ensures.value at c.find_place-index.ensures) c.index_mut.ensures.value
    c.requires.within c.remove.ensures.value

pub returns-clause-numbers : goal.returns-clause-numbers
returns-clause-numbers c =
    numbers_in-remove c.args.chunks.now.items c.args.place _ _ c.index_mut.result.now
    c.remove.new.self (rw c.deref.ensures.value at c.find_place-index.ensures)
    c.index_mut.ensures.value c.requires.within c.remove.ensures.items
