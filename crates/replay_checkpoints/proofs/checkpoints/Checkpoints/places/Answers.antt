use Rattle.std.proofs.Common.{◌≤◌, length, subst, arith}
use Rattle.replay_checkpoints.specs.Spacing.{most_spaced}
use Rattle.replay_checkpoints.specs.Marks.{CheckpointsView}
use Rattle.replay_checkpoints.proofs.Counts.{count_from}
use Rattle.replay_checkpoints.proofs.checkpoints.Checkpoints.places.Goals as goal

pub returns-clause-few : goal.returns-clause-few
returns-clause-few g c =
    let inside = c.self.inside in
    subst (λ (v : CheckpointsView g.row.K-State.Denot). length v.places ≤ most_spaced v.every
    v.lines)
    c.self.view_is
    (count_from 0 inside.every inside.kept.places inside.lines inside.lines
    c.self.invariant.spaced (omega arith))
