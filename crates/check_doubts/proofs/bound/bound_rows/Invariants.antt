use Rattle.std.proofs.Common.{◌≡◌, ◌+◌, ◌≤◌, ◌++◌, length}
use Rattle.std.specs.Str.Lines.{lines}
use Rattle.check_doubts.specs.BoundRows.{bound_rows}
use Rattle.check_doubts.proofs.bound.bound_rows.Given as goal

abbrev pub invariant-loop-line : goal.invariant-loop-line
invariant-loop-line l =
    (bound_rows 1 (lines l.bindings)
    ≡ l.rows.items ++ bound_rows (l.number + 1) (lines l.rest))
    × (l.number + length l.rest ≤ length l.bindings)

abbrev pub decreases-loop-line : goal.decreases-loop-line
decreases-loop-line l = length l.rest
