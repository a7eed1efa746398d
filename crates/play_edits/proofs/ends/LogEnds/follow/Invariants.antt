-- the remaining edits lead the ends to where all edits lead them
use Rattle.std.proofs.Common.{◌≡◌, ◌+◌, length}
use Rattle.replay_edits.specs.Edit.{changes_of}
use Rattle.play_edits.specs.Ends.{ends_after_changes}
use Rattle.replay_scripts.specs.Views.{applied_item}
use Rattle.play_edits.proofs.ends.LogEnds.follow.Given as goal

abbrev pub invariant-loop-edit : goal.invariant-loop-edit
invariant-loop-edit l =
    let item = applied_item l.item in
    record {
      ends : ends_after_changes l.initial.self.usual l.initial.self.script.items item l.at
          (changes_of l.edits) l.self.each.items
          ≡ ends_after_changes l.initial.self.usual l.initial.self.script.items item 0 item.changes
          l.initial.self.each.items;
      counted : l.at + length l.edits ≡ length l.item.edits.items;
      usual : l.self.usual ≡ l.initial.self.usual;
      unended : l.self.unended ≡ l.initial.self.unended;
      script : l.self.script ≡ l.initial.self.script;
    }

abbrev pub decreases-loop-edit : goal.decreases-loop-edit
decreases-loop-edit l = length l.edits
