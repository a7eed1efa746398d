use Rattle.std.proofs.Common.{◌≡◌, ◌++◌, [], drop, take}
use Rattle.check_doubts.specs.Doubts.{doubts_from}
use Rattle.check_doubts.proofs.cave_doubts.push_rows_doubts.Given as goal

-- the doubts so far, with those of the rest, are all doubts
abbrev pub invariant-loop-index : goal.invariant-loop-index
invariant-loop-index l =
    l.doubts.items ++ doubts_from l.rules.cave.now (take l.index l.rows) (drop l.index l.rows)
    ≡ l.initial.doubts.items ++ doubts_from l.rules.cave.now [] l.rows
