use Rattle.std.proofs.Common.{◌≡◌, ap, ◌∙◌, arith}
use Rattle.map_ways.specs.Regions.{places_within}
use Rattle.map_ways.proofs.regions.places_within.Goals as goal

pub returns : goal.returns
returns c =
    let done : c.loop.counter ≡ c.args.ways =
    omega (arith, c.loop-test.false, c.loop.auto.counter-end) in
    c.loop.invariant ∙ ap (places_within c.args.cave.now c.args.mapped.now c.args.from) done
