use Rattle.std.proofs.Common.{◌≤◌, ◌-◌}
use Rattle.replay_edits.specs.Draft.{IsDraft, made_in}
use Rattle.play_edits.proofs.guards.move_to.Given as goal

abbrev pub invariant-loop-alloc : goal.invariant-loop-alloc
invariant-loop-alloc l = record {
  draft : IsDraft l.edits l.log.items (made_in l.draft) l.draft;
  within : made_in l.draft ≤ l.after;
}

abbrev pub decreases-loop-alloc : goal.decreases-loop-alloc
decreases-loop-alloc l = l.after - made_in l.draft
