use Rattle.std.proofs.Common.{◌≡◌, ◌+◌, ◌-◌, ◌≤◌, map, None}
use Rattle.cave_replay.specs.ReadyEdits.{ready_revision}
use Rattle.cave_replay.specs.Replay.{AreFurther, SaysNew, TicksNew, IsMarking, states_of_new}
use Rattle.cave_replay.proofs.Revisions.{HasCheckpoints, HasEndAt, IsUnderway}
use Rattle.cave_replay.proofs.segment.play_changed.Given as goal

abbrev pub invariant-lines : goal.invariant-lines
invariant-lines g l =
    let revision = ready_revision (g.M.Machine.rules l.machine) l.fn.old l.ready in record {
      checkpoints : HasCheckpoints revision
          l.fn.marks.every l.old.checkpoints.now.places;
      ends : HasEndAt revision l.ready.rest l.new;
      underway : IsUnderway revision
          l.old.checkpoints.now.places l.index l.played.marks.next;
      texts : SaysNew revision l.fn.marks.next
          (map g.M.Machine.text l.played.pieces.items) l.played.marks.next;
      ticks : TicksNew revision l.fn.marks.next
          l.played.ticked.items l.played.marks.next;
      marking : IsMarking g.M.Machine.meaning g.M.Machine.is_state
          (states_of_new revision) l.played.marks;
      settings : AreFurther l.fn.marks l.played.marks;
      forward : l.fn.marks.next ≤ l.played.marks.next;
      within : l.played.marks.next ≤ l.fn.marks.end;
      unmet : l.played.met ≡ None;
      counted : g.M.Meter.Steps.count l.meter + l.fn.marks.next
          ≡ g.M.Meter.Steps.count l.fn.meter + l.played.marks.next;
    }

abbrev pub decreases-lines : goal.decreases-lines
decreases-lines g l = l.fn.marks.end - l.played.marks.next
