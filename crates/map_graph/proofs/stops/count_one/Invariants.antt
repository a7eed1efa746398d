use Rattle.std.proofs.Common.{◌≡◌, ℕ, ◌+◌, ◌-◌, length}
use Rattle.std.specs.Prelude.{slice_index_or}
use Rattle.map_graph.proofs.stops.count_one.Given as goal

abbrev pub invariant-loop-counts : goal.invariant-loop-counts
invariant-loop-counts l =
    (other : ℕ) → slice_index_or l.counts.items other 0 ≡ slice_index_or l.fn.counts.items other 0

abbrev pub decreases-loop-counts : goal.decreases-loop-counts
decreases-loop-counts l = l.number + 1 - length l.counts.items
