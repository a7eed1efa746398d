use Rattle.std.proofs.Common.{rules, arith, ◌==◌}
use Rattle.std.proofs.lemmas.Bool.Decides.{nat_tests}
use Rattle.turn_scene.specs.Scene.{cave_of}
use Rattle.turn_dwarves.specs.Ahead.{places_ahead, ways_of_dwarf}
use Rattle.turn_dwarves.specs.Moving.{chosen_way}
use Rattle.turn_dwarves.proofs.Firsts.{many, few}
use Rattle.turn_dwarves.proofs.moving.choose_way.Goals as goal

pub returns-2 : goal.returns-2
unfolding chosen_way ways_of_dwarf
returns-2 g c =
    let cave = cave_of c.args.rules.now in
    let all = places_ahead cave (c.args.number == 5) c.dwarf_of-dwarf.result in
    let found = c.places_ahead-ahead.result.items in
    let h = many found all c.places_ahead-ahead.ensures (omega arith) in
    let some = h.some in let more = h.more in let long = h.long in let same = h.same in
    search rules

pub returns-3 : goal.returns-3
unfolding chosen_way ways_of_dwarf
returns-3 g c =
    let cave = cave_of c.args.rules.now in
    let all = places_ahead cave (c.args.number == 5) c.dwarf_of-dwarf.result in
    let found = c.places_ahead-ahead.result.items in
    let h = few found all c.places_ahead-ahead.ensures (grind (arith, nat_tests)) (omega arith) in
    let some = h.some in let no_more = h.no_more in let long = h.long in let same = h.same in
    search rules
