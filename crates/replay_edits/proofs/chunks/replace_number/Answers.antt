use Rattle.std.proofs.Common.{◌∙◌, set, ap}
use Rattle.replay_edits.proofs.ChunkLemmas.{numbers_in-replace, number_at}
use Rattle.replay_edits.proofs.chunks.replace_number.Goals as goal

pub returns-clause-number : goal.returns-clause-number
returns-clause-number c =
    c.replace.ensures.value
    ∙ number_at c.args.chunks.now.items c.args.place _ _ c.index_mut.result.now
    c.index_mut-chunk.result.now
    (rw c.deref.ensures.value at c.find_place-index.ensures) c.index_mut-chunk.ensures.value
    c.requires.within c.index_mut.ensures.value

pub returns-clause-numbers : goal.returns-clause-numbers
returns-clause-numbers c =
    numbers_in-replace c.args.chunks.now.items c.args.place _ _ c.args.number
    c.index_mut-chunk.result.now _ (rw c.deref.ensures.value at c.find_place-index.ensures)
    c.index_mut-chunk.ensures.value c.requires.within (ap (set c.index_mut-chunk.result.now.items _) c.replace.ensures.after)
