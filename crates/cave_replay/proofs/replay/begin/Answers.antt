use Rattle.std.proofs.Common.{◌∙◌, sym}
use Rattle.cave_replay.proofs.Marking.{marking_at}
use Rattle.cave_replay.proofs.replay.begin.Goals as goal

pub returns-then-seed-old-clause-marking : goal.returns-then-seed-old-clause-marking
returns-then-seed-old-clause-marking g c state start same =
    marking_at g.M.Machine.meaning g.M.Machine.is_state state c.args.old.now.checkpoints.now
    c.args.at c.in_ok-marks.marks c.requires.among (same c.if-seed-old.true)
    c.in_ok-marks.ensures.kept.0 c.in_ok-marks.ensures.kept.1 c.in_ok-marks.ensures.even
    c.in_ok-marks.ensures.open.0 c.in_ok-marks.ensures.open.1

pub returns-clause-begun : goal.returns-clause-begun
returns-clause-begun g c =
    let zero = c.requires.fresh c.if-seed-old.false in
    let first = c.requires.first in
    let made = c.in_ok-marks-2.ensures in
    record {
      among = c.requires.among;
      every = made.settings.0 ∙ c.every.ensures;
      start = rw (zero, made.kept.0) (sym first);
      from = rw zero (made.begins.0 ∙ sym first);
    }

pub returns-clause-next : goal.returns-clause-next
returns-clause-next g c =
    let zero = c.requires.fresh c.if-seed-old.false in
    rw zero (c.in_ok-marks-2.ensures.begins.1 ∙ sym c.requires.first)
