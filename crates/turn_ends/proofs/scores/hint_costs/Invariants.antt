use Rattle.std.proofs.Common.{◌≡◌, ◌+◌, ◌*◌, ◌≤◌}
use Rattle.turn_ends.specs.Score.{hint_costs}
use Rattle.turn_ends.proofs.Sums.{costs_from}
use Rattle.turn_ends.proofs.scores.hint_costs.Given as goal

-- what was counted so far, with the rest, is all, and each hint costs at most 65,535 points
abbrev pub invariant-loop-hint : goal.invariant-loop-hint
invariant-loop-hint l = record {
  counted : l.costs + costs_from l.cave l.state l.hint ≡ hint_costs l.cave l.state;
  few : l.costs + 65535 ≤ 65535 * l.hint;
}
