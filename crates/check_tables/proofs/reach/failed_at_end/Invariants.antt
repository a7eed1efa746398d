use Rattle.std.proofs.Common.{◌≡◌, [], None, drop, map, take}
use Rattle.data_rows.specs.RowViews.{going}
use Rattle.check_tables.specs.Reach.{failed_from}
use Rattle.check_tables.proofs.reach.failed_at_end.Given as goal

abbrev pub invariant-loop-index : goal.invariant-loop-index
invariant-loop-index l =
    failed_from [] None (map going l.rows)
    ≡ failed_from (map going (take l.index l.rows)) l.failed (map going (drop l.index l.rows))
