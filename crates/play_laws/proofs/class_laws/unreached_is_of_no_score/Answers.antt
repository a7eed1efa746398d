use Rattle.play_laws.proofs.ClassRows.{of_no_score}
use Rattle.play_laws.proofs.class_laws.unreached_is_of_no_score.Goals as goal

pub returns : goal.returns
returns c = of_no_score
