use Rattle.std.proofs.Common.{◌≡◌, ◌<◌, ◌≤◌, length}
use Rattle.replay_checkpoints.specs.Blocks.{AreLaid, items_in, start_at}
use Rattle.replay_checkpoints.proofs.block.gather_items.Given as goal

abbrev pub invariant-joins : goal.invariant-joins
invariant-joins g l = record {
  inside : l.index < length l.blocks.items;
  laid : AreLaid 0 l.blocks.items;
  items : items_in l.blocks.items ≡ items_in l.fn.blocks.items;
  begun : start_at l.blocks.items l.index ≤ l.from;
}

abbrev pub decreases-joins : goal.decreases-joins
decreases-joins g l = length l.blocks.items
