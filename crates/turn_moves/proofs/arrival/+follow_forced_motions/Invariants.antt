use Rattle.turn_moves.proofs.arrival.+follow_forced_motions.Given as goal

-- the forced motions that are left
abbrev pub decreases-follow_forced_motions : goal.decreases-follow_forced_motions
decreases-follow_forced_motions g l = l.scene.now.left
