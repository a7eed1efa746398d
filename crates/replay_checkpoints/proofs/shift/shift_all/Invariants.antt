use Rattle.std.proofs.Common.{◌≡◌, ◌+◌, ◌-◌, ◌++◌, map, take, drop}
use Rattle.replay_checkpoints.proofs.shift.shift_all.Given as goal

abbrev pub invariant-loop-number : goal.invariant-loop-number
invariant-loop-number l =
    l.numbers ≡ map (λ number. number - l.old + l.new) (take l.number-index l.initial.numbers)
    ++ drop l.number-index l.initial.numbers
