use Rattle.cave_play.proofs.JudgeLemmas.{caves_are_judged_whole}
use Rattle.play_laws.proofs.fault_laws.caves_are_judged_whole.Goals as goal

pub returns : goal.returns
returns c = caves_are_judged_whole
