use Rattle.play_laws.proofs.OneOutputLemmas.{one_played_output}
use Rattle.play_laws.proofs.output_laws.one_played_output.Goals as goal

pub returns : goal.returns
returns c = one_played_output
