use Rattle.std.proofs.Common.{◌-◌, ◌<◌, ◌≤◌, length}
use Rattle.replay_checkpoints.specs.Blocks.{start_at}
use Rattle.replay_checkpoints.proofs.block.find_block.Given as goal

abbrev pub invariant-back : goal.invariant-back
invariant-back g l = l.index < length l.blocks

abbrev pub decreases-back : goal.decreases-back
decreases-back g l = l.index

abbrev pub invariant-on : goal.invariant-on
invariant-on g l = record {
  inside : l.index < length l.blocks;
  begun : start_at l.blocks l.index ≤ l.place;
}

abbrev pub decreases-on : goal.decreases-on
decreases-on g l = length l.blocks - l.index
