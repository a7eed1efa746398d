use Rattle.std.proofs.Common.{◌≡◌, ◌-◌}
use Rattle.turn_ends.specs.Placing.{after_placing_all}
use Rattle.turn_ends.proofs.Countdown.{due_from}
use Rattle.turn_ends.proofs.begin.place_down.Given as goal

-- the last objects have been placed so far
abbrev pub invariant-loop-i : goal.invariant-loop-i
invariant-loop-i l =
    l.objects ≡ after_placing_all l.cave (due_from l.cave l.twice (101 - l.i) l.i) l.initial.objects
