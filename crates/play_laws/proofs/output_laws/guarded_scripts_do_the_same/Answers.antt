use Rattle.play_laws.proofs.BytesLemmas.{guarded_scripts_do_the_same}
use Rattle.play_laws.proofs.output_laws.guarded_scripts_do_the_same.Goals as goal

pub returns : goal.returns
returns c = guarded_scripts_do_the_same
