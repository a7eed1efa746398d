use Rattle.std.proofs.Common.{◌≡◌, ◌+◌, take}
use Rattle.cave_replay.proofs.Counting.{total}
use Rattle.cave_replay.proofs.ticked_lines.count_between.Given as goal

abbrev pub invariant-loop-place : goal.invariant-loop-place
invariant-loop-place l =
    total (take l.fn.from l.ticked.items) + l.count ≡ total (take l.place l.ticked.items)
