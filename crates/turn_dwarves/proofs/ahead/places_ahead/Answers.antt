use Rattle.std.proofs.Common.{rules, ap, ◌∙◌, arith, take, None}
use Rattle.std.specs.List.{filter_map}
use Rattle.cave_data.specs.CaveView.{ways_from}
use Rattle.turn_scene.specs.Scene.{cave_of}
use Rattle.turn_dwarves.specs.Ahead.{place_ahead, without_repeats, places_ahead}
use Rattle.turn_dwarves.proofs.Firsts.{full, short}
use Rattle.turn_dwarves.proofs.ahead.places_ahead.Goals as goal

pub returns-then-len-eq-MAX_SOUGHT : goal.returns-then-len-eq-MAX_SOUGHT
unfolding places_ahead
returns-then-len-eq-MAX_SOUGHT c =
    let cave = cave_of c.args.rules.now in
    let ways =
    c.travel-row-items.ensures.value ∙ ap (λ n. ways_from cave n) c.number.ensures.value in
    let lead = place_ahead cave c.args.is_pirate c.args.dwarf.now in
    full 20 c.loop-row.found.items _ _ (search rules) c.loop-row.invariant.0
    ∙ ap (λ ws. take 20 (without_repeats None (filter_map lead ws))) ways

pub returns : goal.returns
unfolding places_ahead
returns c =
    let cave = cave_of c.args.rules.now in
    let ways =
    c.travel-row-items.ensures.value ∙ ap (λ n. ways_from cave n) c.number.ensures.value in
    let lead = place_ahead cave c.args.is_pirate c.args.dwarf.now in
    short 20 c.loop-row.found.items _ c.loop-row.last lead c.travel-row-items.result.now
    c.loop-row.row-index (omega (arith, c.loop-row-test.false))
    c.loop-row.invariant.1 c.loop-row.invariant.0
    ∙ ap (λ ws. take 20 (without_repeats None (filter_map lead ws))) ways
