use Rattle.std.proofs.Common.{◌≡◌, ◌+◌, ◌≤◌, ◌++◌, length}
use Rattle.std.specs.Str.Lines.{lines}
use Rattle.data_rows.specs.declared.position.Position.TheVariants.{Outside}
use Rattle.check_doubts.specs.Doubts.{doubts_of_lines}
use Rattle.check_doubts.proofs.cave_doubts.push_lines_doubts.Given as goal

-- the doubts so far, with those of the rest, are all doubts; each line that was counted took at
-- least one byte
abbrev pub invariant-loop-line : goal.invariant-loop-line
invariant-loop-line l =
    (l.initial.doubts.items ++ doubts_of_lines l.cave 1 Outside (lines l.database)
    ≡ l.doubts.items ++ doubts_of_lines l.cave (l.number + 1) l.position (lines l.rest))
    × (l.number + length l.rest ≤ length l.database)

abbrev pub decreases-loop-line : goal.decreases-loop-line
decreases-loop-line l = length l.rest
