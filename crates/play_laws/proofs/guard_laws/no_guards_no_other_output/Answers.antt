use Rattle.play_laws.proofs.GuardLawLemmas.{no_guards_no_other_output}
use Rattle.play_laws.proofs.guard_laws.no_guards_no_other_output.Goals as goal

pub returns : goal.returns
returns c = no_guards_no_other_output
