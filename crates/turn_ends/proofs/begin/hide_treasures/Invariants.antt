use Rattle.std.proofs.Common.{◌≡◌, ◌+◌, ◌-◌, ◌≤◌, length}
use Rattle.turn_scene.specs.Treasures.{known_treasures}
use Rattle.turn_ends.specs.Placing.{after_hiding_treasures}
use Rattle.turn_ends.proofs.Countdown.{known_from}
use Rattle.turn_ends.proofs.begin.hide_treasures.Given as goal

-- hiding the remaining treasures is hiding all, and each hidden one is counted
abbrev pub invariant-loop-number : goal.invariant-loop-number
invariant-loop-number l = record {
  hidden : after_hiding_treasures (known_from l.cave l.number (80 - l.number)) l.objects
      ≡ after_hiding_treasures (known_treasures l.cave) l.initial.objects;
  counted : l.hidden + length (known_from l.cave l.number (80 - l.number))
      ≡ length (known_treasures l.cave);
  few : l.hidden + 50 ≤ l.number;
}
