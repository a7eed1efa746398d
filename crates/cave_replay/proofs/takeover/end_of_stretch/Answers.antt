use Rattle.replay_checkpoints.proofs.Counts.{place_within}
use Rattle.cave_replay.proofs.takeover.end_of_stretch.Goals as goal

pub returns-in-Some-clause-within : goal.returns-in-Some-clause-within
returns-in-Some-clause-within g c =
    rw c.places.ensures.places
    (place_within 0 c.args.checkpoints.now.every c.args.checkpoints.now.places
    c.args.checkpoints.now.lines c.places.ensures.spaced c.in-Some.index
    (c.requires c.in-Some.index c.in-Some.is))
