use Rattle.std.specs.Option.{option_or}
use Rattle.std.proofs.Common.{◌≡◌, map, drop, option_map}
use Rattle.data_rows.specs.RowViews.{going}
use Rattle.turn_scene.specs.Scene.{cave_of}
use Rattle.turn_moves.specs.Back.{indirect_row}
use Rattle.turn_moves.proofs.back.indirect_row.Given as goal

-- the row so far, unless a later one leads through too
abbrev pub invariant-loop-row : goal.invariant-loop-row
invariant-loop-row l =
    option_or (indirect_row (cave_of l.rules) l.sought (map going (drop l.row-index l.rows)))
    (option_map (λ row. going row.now) l.last)
    ≡ indirect_row (cave_of l.rules) l.sought (map going l.rows)
