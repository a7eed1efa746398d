use Rattle.play_edits.proofs.NearestLemmas.{nearest_lines_are_named}
use Rattle.play_edits.proofs.laws.nearest_lines_are_named.Goals as goal

pub returns : goal.returns
returns c = nearest_lines_are_named
