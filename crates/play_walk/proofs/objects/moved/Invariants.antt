use Rattle.std.proofs.Common.{◌≡◌, ◌≤◌, length}
use Rattle.play_walk.specs.Objects.{moved_up_to}
use Rattle.play_walk.proofs.objects.moved.Given as goal

-- what was found is all that was moved up to here
abbrev pub invariant-loop-below : goal.invariant-loop-below
invariant-loop-below l = (l.moved.items ≡ moved_up_to l.before l.after l.below)
    × (length l.moved.items ≤ l.below)
