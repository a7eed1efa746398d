use Rattle.std.proofs.Common.{◌≡◌, ℕ, ◌+◌, ◌-◌, false, length}
use Rattle.std.specs.Prelude.{slice_index_or}
use Rattle.check_tables.proofs.marks.mark_number.Given as goal

abbrev pub invariant-loop-group : goal.invariant-loop-group
invariant-loop-group l =
    (other : ℕ) → slice_index_or l.group.items other false
    ≡ slice_index_or l.initial.group.items other false

abbrev pub decreases-loop-group : goal.decreases-loop-group
decreases-loop-group l = l.number + 1 - length l.group.items
