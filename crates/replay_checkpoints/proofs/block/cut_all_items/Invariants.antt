use Rattle.std.proofs.Common.{◌≡◌, ◌<◌, length}
use Rattle.replay_checkpoints.specs.Blocks.{AreLaid, items_in}
use Rattle.replay_checkpoints.proofs.block.cut_all_items.Given as goal

abbrev pub invariant-loop : goal.invariant-loop
invariant-loop g l = record {
  inside : l.index < length l.blocks.items;
  laid : AreLaid 0 l.blocks.items;
  items : items_in l.blocks.items ≡ items_in l.fn.blocks.items;
}
