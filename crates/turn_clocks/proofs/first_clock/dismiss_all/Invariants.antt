use Rattle.std.proofs.Common.{◌≡◌}
use Rattle.turn_clocks.proofs.Dismissal.{gone_up_to}
use Rattle.turn_clocks.proofs.first_clock.dismiss_all.Given as goal

-- the dwarves before here are gone, and the others are as they were
abbrev pub invariant-loop-dwarf : goal.invariant-loop-dwarf
invariant-loop-dwarf l = l.dwarves ≡ gone_up_to l.dwarf-index l.initial.dwarves
