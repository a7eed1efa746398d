use Rattle.std.proofs.Common.{◌≡◌, take}
use Rattle.replay_edits.specs.Edit.{log_of}
use Rattle.cave_replay.proofs.copies.copy_lines.Given as goal

abbrev pub invariant-loop-place : goal.invariant-loop-place
invariant-loop-place l = log_of l.copy.items ≡ take l.place (log_of l.lines.items)
