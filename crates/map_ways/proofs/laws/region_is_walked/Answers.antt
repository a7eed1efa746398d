use Rattle.map_ways.proofs.RegionLemmas.{region_is_walked}
use Rattle.map_ways.proofs.laws.region_is_walked.Goals as goal

pub returns : goal.returns
returns c = region_is_walked
