use Rattle.play_theorem.proofs.AsPlayed.{refused_changes_nothing}
use Rattle.play_theorem.proofs.laws.refused_changes_nothing.Goals as goal

pub returns : goal.returns
returns c = refused_changes_nothing
