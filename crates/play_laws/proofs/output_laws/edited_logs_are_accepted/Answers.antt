use Rattle.play_laws.proofs.BytesLemmas.{edited_logs_are_accepted}
use Rattle.play_laws.proofs.output_laws.edited_logs_are_accepted.Goals as goal

pub returns : goal.returns
returns c = edited_logs_are_accepted
