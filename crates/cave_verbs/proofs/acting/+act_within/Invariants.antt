-- Each verb that is gone on with leaves one less.
use Rattle.cave_verbs.proofs.acting.+act_within.Given as goal

abbrev pub decreases-act_within : goal.decreases-act_within
decreases-act_within g l = l.left
