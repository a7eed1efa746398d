-- The edits so far have been made in the draft; the lines of the remaining ones are in the log as
-- it is.
use Rattle.std.proofs.Common.{◌≡◌, ◌++◌, drop, take}
use Rattle.replay_edits.specs.Draft.{IsDraft}
use Rattle.replay_edits.specs.Edit.{changes_of, log_of}
use Rattle.replay_edits.specs.Faults.{log_after_all}
use Rattle.play_edits.specs.Undo.{expected_lines, lines_in}
use Rattle.play_edits.proofs.undo.expected_lines.Given as goal

abbrev pub invariant-loop-edit : goal.invariant-loop-edit
invariant-loop-edit l = record {
  expected : lines_in l.lines.items ++ expected_lines (changes_of (drop l.edit-index l.edits))
      (log_after_all (take l.edit-index (changes_of l.edits)) (log_of l.fn.log.items))
      ≡ expected_lines (changes_of l.edits) (log_of l.fn.log.items);
  draft : IsDraft l.edits l.fn.log.items l.edit-index l.draft;
}
