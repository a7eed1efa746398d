use Rattle.std.proofs.Common.{Ok, refl}
use Rattle.play_program.proofs.run.run.Goals as goal

pub returns-in-Ok : goal.returns-in-Ok
returns-in-Ok g c = record {
  ends = (
    g.S.System.calls c.run_apart.new.system,
    Ok c.in-Ok.edits,
    c.in-Ok.ensures,
    (c.tell_notices.ensures, refl),
  );
}
