use Rattle.play_laws.proofs.GuardLawLemmas.{met_guards_no_other_log}
use Rattle.play_laws.proofs.guard_laws.met_guards_no_other_log.Goals as goal

pub returns : goal.returns
returns c = met_guards_no_other_log
