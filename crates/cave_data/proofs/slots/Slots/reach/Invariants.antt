use Rattle.std.proofs.Common.{◌+◌, ◌-◌, vec_len}
use Rattle.cave_data.specs.Slots.{SameSlots}
use Rattle.cave_data.proofs.slots.Slots.reach.Given as goal

abbrev pub invariant-loop-self : goal.invariant-loop-self
invariant-loop-self g l = SameSlots l.initial.self.items.items l.self.items.items

abbrev pub decreases-loop-self : goal.decreases-loop-self
decreases-loop-self g l = (l.number + 1) - vec_len l.self.items
