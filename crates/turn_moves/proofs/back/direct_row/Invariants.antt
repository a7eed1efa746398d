use Rattle.std.proofs.Common.{◌≡◌, map, drop}
use Rattle.data_rows.specs.RowViews.{going}
use Rattle.std.specs.List.{find}
use Rattle.turn_moves.specs.Back.{leads_to}
use Rattle.turn_moves.proofs.back.direct_row.Given as goal

-- no row before this one leads there
abbrev pub invariant-loop-row : goal.invariant-loop-row
invariant-loop-row l =
    find (leads_to l.sought) (map going (drop l.row-index l.rows))
    ≡ find (leads_to l.sought) (map going l.rows)
