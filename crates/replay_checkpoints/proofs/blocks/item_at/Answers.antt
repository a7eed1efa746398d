use Rattle.std.proofs.Common.{sym, ◌∙◌, arith}
use Rattle.replay_checkpoints.proofs.BlockLemmas.{get_within, place_within}
use Rattle.replay_checkpoints.proofs.blocks.item_at.Goals as goal

pub overflow_sub-place : goal.overflow_sub-place
overflow_sub-place g c =
    let block = c.index-blocks-find_block in
    (place_within c.args.blocks.now c.find_block.result block.result c.args.place block.is
    c.requires.laid c.find_block.ensures c.requires.place).0

pub index-requires : goal.index-requires
index-requires g c =
    let block = c.index-blocks-find_block in
    let within = place_within c.args.blocks.now c.find_block.result block.result c.args.place
    block.is c.requires.laid c.find_block.ensures c.requires.place in
    omega (arith, within.0, within.1, block.result.items.ok.0)

pub returns : goal.returns
returns g c =
    let block = c.index-blocks-find_block in
    let within = place_within c.args.blocks.now c.find_block.result block.result c.args.place
    block.is c.requires.laid c.find_block.ensures c.requires.place in
    c.index.ensures
    ∙ sym (get_within c.args.blocks.now c.find_block.result block.result c.args.place
    c.index.result.now c.find_block.ensures.inside block.is c.requires.laid within.0 within.1)
