use Rattle.play_laws.proofs.OneOutputLemmas.{one_edited_output}
use Rattle.play_laws.proofs.output_laws.one_edited_output.Goals as goal

pub returns : goal.returns
returns c = one_edited_output
