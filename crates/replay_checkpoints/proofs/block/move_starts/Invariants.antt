use Rattle.std.proofs.Common.{◌≡◌, ◌++◌, map, take, drop}
use Rattle.replay_checkpoints.specs.Blocks.{moved_block}
use Rattle.replay_checkpoints.proofs.block.move_starts.Given as goal

abbrev pub invariant-loop-block : goal.invariant-loop-block
invariant-loop-block g l =
    l.blocks ≡ map (moved_block l.gone l.come) (take l.block-index l.initial.blocks)
    ++ drop l.block-index l.initial.blocks
