use Rattle.std.proofs.Common.{set, ap, ◌∙◌}
use Rattle.replay_edits.specs.Edit.{log_of}
use Rattle.replay_edits.proofs.Groups.{log_of-set}
use Rattle.replay_edits.proofs.new_line.take_line.Goals as goal

pub returns-in-Old-clause-log : goal.returns-in-Old-clause-log
returns-in-Old-clause-log c =
    let log = c.args.log.now.items in
    rw c.in-Old.is (ap log_of c.put.ensures.items
    ∙ log_of-set log c.in-Old.place c.empty.result
    ∙ ap (set (log_of log) c.in-Old.place) c.empty.ensures)
