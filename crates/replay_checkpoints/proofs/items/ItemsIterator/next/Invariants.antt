use Rattle.std.proofs.Common.{◌≡◌, ◌++◌, length}
use Rattle.replay_checkpoints.specs.Blocks.{items_in}
use Rattle.replay_checkpoints.proofs.items.ItemsIterator.next.Given as goal

abbrev pub invariant-blocks-2 : goal.invariant-blocks-2
invariant-blocks-2 g l =
    l.self-inside.block.now ++ items_in l.self-inside.rest.now
    ≡ l.initial.self-inside.block.now ++ items_in l.initial.self-inside.rest.now

abbrev pub decreases-blocks-2 : goal.decreases-blocks-2
decreases-blocks-2 g l = length l.self-inside.rest.now
