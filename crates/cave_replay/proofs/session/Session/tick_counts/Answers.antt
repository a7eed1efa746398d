use Rattle.std.proofs.Common.{length, ap, ◌∙◌, arith}
use Rattle.replay_edits.proofs.Lines.{length-log_of}
use Rattle.cave_replay.proofs.Plays.{length-ticks}
use Rattle.cave_replay.proofs.session.Session.tick_counts.Goals as goal

pub of-requires : goal.of-requires
of-requires g c =
    let k = c.self.inside.kept in
    let ticks = length-ticks c.self.invariant.plays in
    let few = c.self.invariant.game_is.few in
    let n = length-log_of k.log.items in
    rw c.items.ensures (omega arith)

pub returns-clause-each_line : goal.returns-clause-each_line
returns-clause-each_line g c =
    let ticks = length-ticks c.self.invariant.plays in
    rw (← c.self.view_is) (c.of.ensures.each_line ∙ ap length c.items.ensures ∙ ticks)

pub returns-clause-counts : goal.returns-clause-counts
returns-clause-counts g c =
    let ticks = length-ticks c.self.invariant.plays in
    rw (← c.self.view_is)
    (λ place below. rw (← c.items.ensures)
    (c.of.ensures.counts place (rw c.items.ensures (omega arith))))
