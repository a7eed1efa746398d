use Rattle.std.proofs.Common.{length, ap, refl}
use Rattle.replay_checkpoints.proofs.BlockLemmas.{set_items, set_laid}
use Rattle.replay_checkpoints.proofs.BlockStarts.{set_starts}
use Rattle.replay_checkpoints.proofs.block.reserve_items.Goals as goal

pub returns-clause-laid : goal.returns-clause-laid
returns-clause-laid g c =
    set_laid c.args.blocks.now.items c.args.index c.index_mut.result.now _ c.requires.inside
    c.index_mut.ensures.value refl (ap length c.reserve.ensures.items) c.requires.laid

pub returns-clause-items : goal.returns-clause-items
returns-clause-items g c =
    set_items c.args.blocks.now.items c.args.index c.index_mut.result.now _ c.requires.inside
    c.index_mut.ensures.value c.reserve.ensures.items

pub returns-clause-starts : goal.returns-clause-starts
returns-clause-starts g c = λ k.
    ap length
    (set_starts c.args.blocks.now.items c.args.index c.index_mut.result.now _ c.requires.inside
    c.index_mut.ensures.value c.reserve.ensures.items k)
