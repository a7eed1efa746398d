use Rattle.play_laws.proofs.Redo.{redo_gives_the_edits}
use Rattle.play_laws.proofs.edit_laws.redo_gives_the_edits.Goals as goal

pub returns : goal.returns
returns c = redo_gives_the_edits
