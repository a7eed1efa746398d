use Rattle.play_laws.proofs.BytesLemmas.{undo_scripts_take_back}
use Rattle.play_laws.proofs.output_laws.undo_scripts_take_back.Goals as goal

pub returns : goal.returns
returns c = undo_scripts_take_back
