use Rattle.std.proofs.Common.{◌<◌, length, arith, refl}
use Rattle.std.proofs.lemmas.Option.{slice_get_read}
use Rattle.cave_replay.proofs.Plays.{length-ticks}
use Rattle.cave_replay.proofs.session.Session.ticked.Goals as goal

pub at-requires : goal.at-requires
at-requires g c =
    let ticks = length-ticks c.self.invariant.plays in
    let within = rw (← c.self.view_is) at c.requires in
    omega arith

pub returns : goal.returns
returns g c =
    let k = c.self.inside.kept in
    let ticks = length-ticks c.self.invariant.plays in
    let within = rw (← c.self.view_is) at c.requires in
    let below : c.args.place < length k.ticked.each.items = omega arith in
    rw (← c.self.view_is)
    (slice_get_read k.ticked.each.items (length k.ticked.each.items) c.args.place c.at.result.now refl
    below c.at.ensures)
