use Rattle.std.proofs.Common.{drop, ap, ◌∙◌}
use Rattle.std.proofs.lemmas.List.{take_rest}
use Rattle.replay_edits.specs.Chunks.{numbers_in}
use Rattle.replay_edits.proofs.ChunkLemmas.{numbers_in-halve}
use Rattle.replay_edits.proofs.chunks.halve.Goals as goal

pub returns-clause-numbers : goal.returns-clause-numbers
returns-clause-numbers c =
    let chunk = c.index_mut-chunk.result.now in
    ap numbers_in c.in_ok-insert.ensures.items
    ∙ numbers_in-halve c.args.chunks.now.items c.args.index _ chunk c.truncate.new.self
    c.in_ok-rest.rest c.requires c.index_mut-chunk.ensures.value c.truncate.ensures.items
    (c.in_ok-rest.ensures.items ∙ take_rest c.deref.result.now _ ∙ ap (drop _) c.deref.ensures.value)
