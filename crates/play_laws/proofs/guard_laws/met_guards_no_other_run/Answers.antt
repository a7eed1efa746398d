use Rattle.play_laws.proofs.MetGuards.{met_guards_no_other_run}
use Rattle.play_laws.proofs.guard_laws.met_guards_no_other_run.Goals as goal

pub returns : goal.returns
returns c =
    met_guards_no_other_run c.no_guards_no_other_script.ensures c.no_guards_no_other_output.ensures
