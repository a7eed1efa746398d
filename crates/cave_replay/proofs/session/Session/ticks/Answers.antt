use Rattle.std.proofs.Common.{arith}
use Rattle.cave_replay.proofs.Plays.{length-ticks}
use Rattle.cave_replay.proofs.session.Session.ticks.Goals as goal

pub before-requires : goal.before-requires
before-requires g c =
    let ticks = length-ticks c.self.invariant.plays in
    let within = rw (← c.self.view_is) at c.requires in
    omega arith
