use Rattle.std.proofs.Common.{◌-◌, ◌^◌}
use Rattle.replay_edits.specs.Edit.{change_of}
use Rattle.cave_replay.proofs.ReadyLemmas.{bounded_alone}
use Rattle.cave_replay.proofs.session.Session.edit.Goals as goal

pub returns-in-Err-clause-bounded : goal.returns-in-Err-clause-bounded
returns-in-Err-clause-bounded g c =
    bounded_alone (g.M.Machine.rules c.args.self.now.machine) (change_of c.args.edit.now)
    c.args.self.now.game c.args.self.now.every
    (2 ^ 64 - 1 - g.M.Meter.Steps.count c.args.meter.now)
    (g.M.Meter.Steps.count c.args.meter.now) (g.M.Meter.Steps.count c.edit_group.new.meter)
    (rw c.from_ref.ensures.value at c.in-Err.ensures.bounded)
