use Rattle.map_ways.proofs.AppliedRows.{applied_rows_are_ways}
use Rattle.map_ways.proofs.laws.applied_rows_are_ways.Goals as goal

pub returns : goal.returns
returns c = applied_rows_are_ways
