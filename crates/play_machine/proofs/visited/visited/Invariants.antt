use Rattle.std.proofs.Common.{◌≤◌, length}
use Rattle.play_machine.specs.Machine.{IsUnvisitedAfter}
use Rattle.play_machine.proofs.visited.visited.Given as goal

abbrev pub invariant-blocks-2 : goal.invariant-blocks-2
invariant-blocks-2 l = IsUnvisitedAfter l.visits l.first × (length l.first ≤ length l.visits)

abbrev pub decreases-blocks-2 : goal.decreases-blocks-2
decreases-blocks-2 l = length l.first
