use Rattle.replay_edits.specs.Edit.{log_of}
use Rattle.cave_replay.proofs.LogTextLemmas.{reads_back}
use Rattle.cave_replay.proofs.session.Session.push_log.Goals as goal

pub returns-clause-reads_back : goal.returns-clause-reads_back
returns-clause-reads_back g c =
    rw (← c.self.view_is)
    (reads_back (log_of c.self.inside.kept.log.items) c.self.invariant.game_is.lines)
