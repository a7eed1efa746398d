-- Those so far are within.
use Rattle.std.proofs.Common.{ℕ}
use Rattle.play_state_text.specs.Within.{IsUpTo, IsThingWithin}
use Rattle.play_state_text.proofs.objects.are_objects_within.Given as goal

abbrev pub invariant-loop-before : goal.invariant-loop-before
invariant-loop-before l = (n : ℕ) → IsUpTo l.before n → IsThingWithin l.objects n
