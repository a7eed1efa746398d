use Rattle.std.proofs.Common.{length}
use Rattle.cave_data.proofs.BindingLemmas.{BoundSoFar}
use Rattle.cave_data.proofs.bindings.read_bindings.Given as goal

abbrev pub invariant-loop-line : goal.invariant-loop-line
invariant-loop-line l = BoundSoFar l.text l.rest l.count l.bindings

abbrev pub decreases-loop-line : goal.decreases-loop-line
decreases-loop-line l = length l.rest
