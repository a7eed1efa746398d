use Rattle.std.proofs.Common.{◌≡◌, [], drop, map, take}
use Rattle.data_rows.specs.RowViews.{going}
use Rattle.map_ways.specs.Ways.{lead_to}
use Rattle.map_ways.proofs.ways.lead_to.Given as goal

-- none of the rows before leads there
abbrev pub invariant-loop-count : goal.invariant-loop-count
invariant-loop-count l =
    lead_to l.place (map going (take l.count l.rows))
    (map going (drop l.count l.rows))
    ≡ lead_to l.place [] (map going l.rows)
