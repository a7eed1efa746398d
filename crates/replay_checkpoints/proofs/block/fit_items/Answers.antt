use Rattle.std.proofs.Common.{length, ap, refl}
use Rattle.replay_checkpoints.proofs.BlockLemmas.{set_items, set_laid}
use Rattle.replay_checkpoints.proofs.block.fit_items.Goals as goal

pub returns-clause-laid : goal.returns-clause-laid
returns-clause-laid g c =
    set_laid c.args.blocks.now.items c.args.index c.index_mut.result.now _ c.requires.inside
    c.index_mut.ensures.value refl (ap length c.shrink_to.ensures.items) c.requires.laid

pub returns-clause-items : goal.returns-clause-items
returns-clause-items g c =
    set_items c.args.blocks.now.items c.args.index c.index_mut.result.now _ c.requires.inside
    c.index_mut.ensures.value c.shrink_to.ensures.items
