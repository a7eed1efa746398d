use Rattle.std.proofs.Common.{◌≡◌, ◌+◌, ◌≤◌, ◌++◌, length}
use Rattle.std.specs.Str.Lines.{lines}
use Rattle.data_rows.specs.declared.position.Position.TheVariants.{Outside}
use Rattle.data_lines.specs.Marks.{marked_rows}
use Rattle.data_lines.proofs.rows.marked_rows.Given as goal

-- the rows so far, with those of the rest, are all rows; each line that was counted took at least
-- one byte
abbrev pub invariant-loop-line : goal.invariant-loop-line
invariant-loop-line l =
    (marked_rows 1 Outside (lines l.database)
    ≡ l.rows.items ++ marked_rows (l.number + 1) l.position (lines l.rest))
    × (l.number + length l.rest ≤ length l.database)

abbrev pub decreases-loop-line : goal.decreases-loop-line
decreases-loop-line l = length l.rest
