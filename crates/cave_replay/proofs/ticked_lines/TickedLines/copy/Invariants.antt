use Rattle.std.proofs.Common.{◌≡◌, take}
use Rattle.cave_replay.proofs.ticked_lines.TickedLines.copy.Given as goal

abbrev pub invariant-loop-place : goal.invariant-loop-place
invariant-loop-place l = l.each.items ≡ take l.place l.self.each.items
