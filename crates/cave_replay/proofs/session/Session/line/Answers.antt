use Rattle.replay_edits.proofs.Lines.{is_line-read, length-log_of}
use Rattle.cave_replay.proofs.session.Session.line.Goals as goal

pub returns-clause-valid : goal.returns-clause-valid
returns-clause-valid g c =
    let log = c.self.inside.kept.log.items in
    let below = rw (← c.self.view_is, length-log_of log) at c.requires in
    rw c.deref.ensures
    (is_line-read log c.args.place c.at.result.now below c.at.ensures
    c.self.invariant.game_is.lines)
