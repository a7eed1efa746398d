-- Those so far are within.
use Rattle.std.proofs.Common.{ℕ}
use Rattle.cave_world.specs.State.{no_dwarf}
use Rattle.play_state_text.specs.Things.{item_at}
use Rattle.play_state_text.specs.Within.{IsDwarfWithin, IsUpTo}
use Rattle.play_state_text.proofs.dwarves.are_dwarves_within.Given as goal

abbrev pub invariant-loop-before : goal.invariant-loop-before
invariant-loop-before l = (n : ℕ) → IsUpTo l.before n → IsDwarfWithin (item_at no_dwarf l.dwarves n)
