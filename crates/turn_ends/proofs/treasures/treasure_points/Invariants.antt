use Rattle.std.proofs.Common.{◌≡◌, ◌+◌, ◌*◌, ◌≤◌}
use Rattle.turn_ends.specs.Score.{scored_cave, treasures_row}
use Rattle.turn_ends.proofs.Sums.{points_from}
use Rattle.turn_ends.proofs.treasures.treasure_points.Given as goal

-- what was counted so far, with the rest, is all, and each treasure counts at most 16 points
abbrev pub invariant-loop-number : goal.invariant-loop-number
invariant-loop-number l = record {
  counted : l.points + points_from (scored_cave l.scorer) l.state l.number
      ≡ (treasures_row (scored_cave l.scorer)).points l.state;
  few : l.points + 800 ≤ 16 * l.number;
}
