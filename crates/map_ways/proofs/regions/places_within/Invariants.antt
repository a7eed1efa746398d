use Rattle.std.proofs.Common.{◌≡◌}
use Rattle.map_ways.specs.Regions.{places_within}
use Rattle.map_ways.proofs.regions.places_within.Given as goal

abbrev pub invariant-loop : goal.invariant-loop
invariant-loop l = l.places.items ≡ places_within l.cave l.mapped l.from l.counter
