use Rattle.std.proofs.Common.{◌≡◌, ◌-◌, drop}
use Rattle.play_edits.specs.Refusal.{log_in, nearest, nearest_from}
use Rattle.play_edits.proofs.guards.nearest.Given as goal

-- the place that was found so far leads to the nearest
abbrev pub invariant-loop-at : goal.invariant-loop-at
invariant-loop-at l =
    nearest_from l.place l.text l.at l.found (drop l.at (log_in l.draft))
    ≡ nearest l.place l.text (log_in l.draft)

abbrev pub decreases-loop-at : goal.decreases-loop-at
decreases-loop-at l = l.lines - l.at
