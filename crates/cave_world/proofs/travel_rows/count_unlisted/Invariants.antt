use Rattle.std.proofs.Common.{◌≡◌, ◌+◌, map, drop}
use Rattle.data_rows.specs.RowViews.{going}
use Rattle.cave_world.specs.Travel.{count_unlisted, from_listed}
use Rattle.cave_world.proofs.travel_rows.count_unlisted.Given as goal

-- no row before this one lists the motion
abbrev pub invariant-loop-i : goal.invariant-loop-i
invariant-loop-i l =
    (l.i + count_unlisted l.motion (map going (drop l.i l.rows))
    ≡ count_unlisted l.motion (map going l.rows))
    × (from_listed l.motion (map going (drop l.i l.rows)) ≡ from_listed l.motion (map going l.rows))
