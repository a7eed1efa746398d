-- Those so far are within.
use Rattle.std.proofs.Common.{ℕ}
use Rattle.play_state_text.specs.Things.{item_at}
use Rattle.play_state_text.specs.Within.{IsWide, IsUpTo}
use Rattle.play_state_text.proofs.visits.are_visits_within.Given as goal

abbrev pub invariant-loop-before : goal.invariant-loop-before
invariant-loop-before l = (n : ℕ) → IsUpTo l.before n → IsWide (item_at 0 l.visits n)
