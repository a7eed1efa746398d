use Rattle.play_laws.proofs.DifferenceLaws.{differences_make_the_log}
use Rattle.play_laws.proofs.output_laws.differences_make_the_log.Goals as goal

pub returns : goal.returns
returns c = differences_make_the_log
