-- A game that has ended is over.
use Rattle.std.proofs.Common.{◌||◌, Bool, true, false, refl}
use Rattle.std.specs.Prelude.{IsTrue, is_some}
use Rattle.cave_world.specs.State.{takes_no_command}
use Rattle.cave_world.specs.declared.ending.Ending.{Ending}
use Rattle.cave_world.specs.declared.state.State.{State}
use Rattle.turn_ends.specs.Endings.{with_ending}

pub over_by_ending : (how : Ending) (s : State) → IsTrue (takes_no_command (with_ending how s))
unfolding takes_no_command
over_by_ending how s = either (is_some s.question) where
  either : (b : Bool) → IsTrue (b || true)
  either true = refl
  either false = refl

pub ruleset over = over_by_ending
