use Rattle.std.proofs.Common.{◌≡◌, ◌++◌, ◌≤◌, None, map, drop, take, length}
use Rattle.std.specs.List.{filter_map}
use Rattle.data_rows.specs.RowViews.{going}
use Rattle.turn_scene.specs.Scene.{cave_of}
use Rattle.turn_dwarves.specs.Ahead.{place_ahead, without_repeats}
use Rattle.turn_dwarves.proofs.ahead.places_ahead.Given as goal

-- the places so far, and those to which the rows from here lead, begin like those of all rows
abbrev pub invariant-loop-row : goal.invariant-loop-row
invariant-loop-row l =
    let lead = place_ahead (cave_of l.rules) l.is_pirate l.dwarf in
    let rest = map going (drop l.row-index l.row-items) in
    (take 20 (l.found.items ++ without_repeats l.last (filter_map lead rest))
    ≡ take 20 (without_repeats None (filter_map lead (map going l.row-items))))
    × (length l.found.items ≤ 20)
