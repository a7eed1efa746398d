use Rattle.std.proofs.Common.{◌-◌, ap, sym, refl, ◌∙◌, arith, set}
use Rattle.std.proofs.lemmas.List.{get_or_default, length-set}
use Rattle.replay_checkpoints.proofs.BlockLemmas.{get_within, place_within, put_within, set_laid}
use Rattle.replay_checkpoints.proofs.BlockStarts.{holds_after}
use Rattle.replay_checkpoints.proofs.blocks.put_item.Goals as goal

pub overflow_sub-within : goal.overflow_sub-within
overflow_sub-within g c =
    let blocks = c.args.blocks.now.items in
    let found = rw c.deref.ensures.value at c.find_block-index.ensures in
    (place_within blocks c.find_block-index.result c.index_mut-block.result.now c.args.place
    c.index_mut-block.ensures.value c.requires.laid found c.requires.place).0

pub index_mut-requires : goal.index_mut-requires
index_mut-requires g c =
    let blocks = c.args.blocks.now.items in
    let block = c.index_mut-block.result.now in
    let found = rw c.deref.ensures.value at c.find_block-index.ensures in
    let within = place_within blocks c.find_block-index.result block c.args.place
    c.index_mut-block.ensures.value c.requires.laid found c.requires.place in
    omega (arith, within.0, within.1, block.items.ok.0)

pub returns-clause-laid : goal.returns-clause-laid
returns-clause-laid g c =
    let blocks = c.args.blocks.now.items in
    let block = c.index_mut-block.result.now in
    let found = rw c.deref.ensures.value at c.find_block-index.ensures in
    set_laid blocks c.find_block-index.result block _ found.inside c.index_mut-block.ensures.value
    refl (length-set block.items.items (c.args.place - block.start) c.replace.new.dest)
    c.requires.laid

pub returns-clause-item : goal.returns-clause-item
returns-clause-item g c =
    let blocks = c.args.blocks.now.items in
    let block = c.index_mut-block.result.now in
    let found = rw c.deref.ensures.value at c.find_block-index.ensures in
    let within = place_within blocks c.find_block-index.result block c.args.place
    c.index_mut-block.ensures.value c.requires.laid found c.requires.place in
    c.replace.ensures.value ∙ c.index_mut.ensures.value
    ∙ get_or_default block.items.items (c.args.place - block.start) _ c.replace.result
    (omega (arith, within.0, within.1))
    ∙ sym (get_within blocks c.find_block-index.result block c.args.place c.replace.result
    found.inside c.index_mut-block.ensures.value c.requires.laid within.0 within.1)

pub returns-clause-items : goal.returns-clause-items
returns-clause-items g c =
    let blocks = c.args.blocks.now.items in
    let block = c.index_mut-block.result.now in
    let found = rw c.deref.ensures.value at c.find_block-index.ensures in
    let within = place_within blocks c.find_block-index.result block c.args.place
    c.index_mut-block.ensures.value c.requires.laid found c.requires.place in
    put_within blocks c.find_block-index.result block _ c.args.place c.args.item found.inside
    c.index_mut-block.ensures.value c.requires.laid within.0 within.1
    (ap (set block.items.items (c.args.place - block.start)) c.replace.ensures.after)

pub returns-clause-held : goal.returns-clause-held
returns-clause-held g c = λ from to count k.
    let blocks = c.args.blocks.now.items in
    let block = c.index_mut-block.result.now in
    let found = rw c.deref.ensures.value at c.find_block-index.ensures in
    holds_after blocks c.find_block-index.result block _ found.inside
    c.index_mut-block.ensures.value
    (length-set block.items.items (c.args.place - block.start) c.replace.new.dest)
    (λ gone come room. room) from to count k
