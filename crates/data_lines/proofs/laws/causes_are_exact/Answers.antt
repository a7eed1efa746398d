use Rattle.data_lines.proofs.ExactCauses.{causes_are_exact}
use Rattle.data_lines.proofs.laws.causes_are_exact.Goals as goal

pub returns : goal.returns
returns c = causes_are_exact
