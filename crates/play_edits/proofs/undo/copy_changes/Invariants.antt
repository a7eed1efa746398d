-- The copies so far are of the edits so far.
use Rattle.std.proofs.Common.{◌≡◌, ◌++◌, drop}
use Rattle.replay_edits.specs.Edit.{changes_of}
use Rattle.play_edits.proofs.undo.copy_changes.Given as goal

abbrev pub invariant-loop-edit : goal.invariant-loop-edit
invariant-loop-edit l =
    changes_of l.copies.items ++ changes_of (drop l.edit-index l.edits) ≡ changes_of l.edits
