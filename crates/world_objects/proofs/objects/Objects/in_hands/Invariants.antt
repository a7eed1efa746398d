use Rattle.std.proofs.Common.{◌≡◌, ◌≤◌, length}
use Rattle.world_objects.specs.Objects.{in_hands_up_to}
use Rattle.world_objects.proofs.objects.Objects.in_hands.Given as goal

-- what was found is all that is in the hands up to here
abbrev pub invariant-loop-before : goal.invariant-loop-before
invariant-loop-before l = (l.in_hands.items ≡ in_hands_up_to l.self l.before)
    × (length l.in_hands.items ≤ l.before)
