-- What was written, with the remaining lines, is the whole.
use Rattle.std.proofs.Common.{◌≡◌, ◌++◌, drop}
use Rattle.cave_replay.specs.LogText.{log_text}
use Rattle.replay_edits.specs.Edit.{log_of}
use Rattle.cave_replay.proofs.log.push_lines.Given as goal

abbrev pub invariant-loop-place : goal.invariant-loop-place
invariant-loop-place l =
    l.text.items ++ log_text (log_of (drop l.place l.lines.items)) ≡ l.initial.text.items
    ++ log_text (log_of l.lines.items)
