-- No turn of the hints so far counts.
use Rattle.std.proofs.Common.{◌≡◌, ◌<◌, ◌+◌, ℕ}
use Rattle.turn_clocks.proofs.hints.counts_no_turn.Given as goal
use Rattle.turn_clocks.specs.Hints.{FIRST_HINT}
use Rattle.cave_world.specs.State.{turns_in_area}

abbrev pub invariant-loop-before : goal.invariant-loop-before
invariant-loop-before l = (n : ℕ) → n < l.before → turns_in_area l.state (FIRST_HINT + n) ≡ 0
