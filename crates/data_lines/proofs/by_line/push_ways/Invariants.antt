use Rattle.std.proofs.Common.{◌≡◌, ◌++◌, [], drop, take}
use Rattle.data_lines.specs.WayLines.{AreCounts, way_lines_from}
use Rattle.data_lines.proofs.by_line.push_ways.Given as goal

-- the ways so far, with those of the rest, are all ways; those so far are counted
abbrev pub invariant-loop-row : goal.invariant-loop-row
invariant-loop-row l =
    (l.ways.items ++ way_lines_from (take l.row-index l.rows) (drop l.row-index l.rows)
    ≡ l.initial.ways.items ++ way_lines_from [] l.rows)
    × AreCounts (take l.row-index l.rows) l.counts.items
