use Rattle.play_laws.proofs.BytesLemmas.{undo_gives_the_bytes}
use Rattle.play_laws.proofs.output_laws.undo_gives_the_bytes.Goals as goal

pub returns : goal.returns
returns c = undo_gives_the_bytes
