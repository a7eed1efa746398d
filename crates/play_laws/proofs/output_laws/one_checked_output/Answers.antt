use Rattle.play_laws.proofs.OneOutputLemmas.{one_checked_output}
use Rattle.play_laws.proofs.output_laws.one_checked_output.Goals as goal

pub returns : goal.returns
returns c = one_checked_output
