use Rattle.play_laws.proofs.ListedDifferences.{differences_are_listed}
use Rattle.play_laws.proofs.difference_laws.differences_are_listed.Goals as goal

pub returns : goal.returns
returns c = differences_are_listed
