use Rattle.std.proofs.Common.{◌≡◌}
use Rattle.play_tables.specs.Draws.{draws_between}
use Rattle.play_tables.proofs.Drawing.{draws_from}
use Rattle.play_tables.proofs.draws.draws_between.Given as goal

-- the draws so far and the remaining ones are all draws
abbrev pub invariant-loop-drawn : goal.invariant-loop-drawn
invariant-loop-drawn l = draws_from l.drawn l.at l.to ≡ draws_between l.fn.from l.to
