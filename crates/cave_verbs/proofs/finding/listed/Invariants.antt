use Rattle.std.proofs.Common.{◌≡◌, ◌≤◌, length}
use Rattle.turn_scene.specs.Scene.{cave_of}
use Rattle.cave_verbs.specs.Finding.{listed_up_to}
use Rattle.cave_verbs.proofs.finding.listed.Given as goal

-- what was found is all that is listed up to here
abbrev pub invariant-loop-before : goal.invariant-loop-before
invariant-loop-before l =
    (l.listed.items ≡ listed_up_to (cave_of l.rules) l.state l.before)
    × (length l.listed.items ≤ l.before)
