use Rattle.std.proofs.Common.{◌≡◌, ℕ, ◌-◌, ◌^◌, ◌<◌, ◌≤◌, List, length, ◌∙◌, refl, arith}
use Rattle.std.specs.Prelude.{slice_index}
use Rattle.replay_edits.specs.Edit.{changes_of, margins_of, log_of}
use Rattle.cave_replay.specs.Replay.{states_of_new}
use Rattle.cave_replay.proofs.Bounds.{near_last}
use Rattle.cave_replay.proofs.Joins.{prefix_are}
use Rattle.cave_replay.proofs.ReadyLemmas.{checkpoints_of, revision_by, steps_within, match_map}
use Rattle.cave_replay.proofs.ReadyLemmas.{met_at_end}
use Rattle.cave_replay.proofs.Revisions.{IsLastIndex}
use Rattle.cave_replay.proofs.replay.replay.Goals as goal

-- what the search for it finds, in the places that were read
last_index : {read places : List ℕ} {place at : ℕ} → read ≡ places → at < length read
    → ((k : ℕ) → k ≤ at → slice_index read k ≤ place)
    → ((k : ℕ) → at < k → k < length read → place < slice_index read k)
    → IsLastIndex places place at
last_index {at} is among before after =
    rw (← is) (record { among = among; before = before at (omega arith); after = after })

pub play_changed-requires-clause-begun : goal.play_changed-requires-clause-begun
play_changed-requires-clause-begun g c =
    let rules = g.M.Machine.rules c.args.machine.now in
    let checkpoints =
    checkpoints_of rules c.in_ok-ready.ensures.ready
    c.requires.kept.every_is.some c.requires.kept.lines c.places.ensures.spaced in
    let last =
    last_index c.places.ensures.places c.last_to-at.ensures.within c.last_to-at.ensures.before
    c.last_to-at.ensures.after in
    let revision =
    revision_by rules c.args.kept.now.seed c.args.kept.now.log.items c.in_ok-ready.ready in
    let begun = c.in_ok-opening.ensures in
    record {
      lines = c.requires.kept.lines;
      old_states = c.requires.kept.states;
      marking =
          begun.marking (states_of_new revision) refl
          (λ seed. prefix_are seed c.args.kept.now.checkpoints checkpoints c.requires.kept.states
          c.last_to-at.result last);
      before = record {
        end = begun.end ∙ c.in_ok-ready.ensures.ready.lines;
        every_is = begun.begun.every;
        apart = omega (arith, begun.begun.every, c.requires.kept.every_is.some);
        from = rw begun.next last.before;
        near = rw (begun.next, begun.begun.every)
            (near_last checkpoints.spacing last (omega (arith, checkpoints.shift.within_old)));
      };
    }

pub returns-in_err-played-clause-bounded :
    goal.returns-in_err-played-clause-bounded
returns-in_err-played-clause-bounded g c =
    let left : 2 ^ 64 - 1 - g.M.Meter.Steps.count c.args.meter.now ≡ c.left-left.result =
    omega (arith, c.left-left.ensures) in
    rw (left, ← c.in_ok-opening.ensures.begun.every)
    (steps_within (g.M.Machine.rules c.args.machine.now) c.in_ok-opening.field-0.marks.every _
    (g.M.Meter.Steps.count c.args.meter.now) (g.M.Meter.Steps.count c.play_changed.new.meter)
    c.in_ok-ready.ensures.edits c.in_ok-ready.ensures.none
    c.in_err-played.ensures.counted
    c.in_err-played.ensures.bounded)

pub returns-clause-bounded : goal.returns-clause-bounded
returns-clause-bounded g c =
    let left : 2 ^ 64 - 1 - g.M.Meter.Steps.count c.args.meter.now ≡ c.left-left.result =
    omega (arith, c.left-left.ensures) in
    rw (left, ← c.in_ok-opening.ensures.begun.every)
    (steps_within (g.M.Machine.rules c.args.machine.now) c.in_ok-opening.field-0.marks.every _
    (g.M.Meter.Steps.count c.args.meter.now) (g.M.Meter.Steps.count c.play_changed.new.meter)
    c.in_ok-ready.ensures.edits c.in_ok-ready.ensures.none
    c.in_ok-played.ensures.counted
    c.in_ok-played.ensures.bounded)

pub returns-clause-rerun : goal.returns-clause-rerun
returns-clause-rerun g c =
    let last =
    last_index c.places.ensures.places c.last_to-at.ensures.within c.last_to-at.ensures.before
    c.last_to-at.ensures.after in
    let edits = c.in_ok-ready.ensures.edits in
    let log = log_of c.args.kept.now.log.items in
    let tail : length c.args.kept.now.log.items - c.in_ok-ready.ready.rest
    ≡ (margins_of (changes_of c.args.edits.now) log).tail = omega (arith, edits.tail) in
    let begun = c.in_ok-opening.ensures in
    let made = c.in_ok-played.ensures.played in
    let end = begun.end ∙ c.in_ok-ready.ensures.ready.lines in
    rw (← edits.head, ← tail)
    (record {
      begun = record {
        among = begun.begun.among;
        every = made.settings.every ∙ begun.begun.every;
        start = made.settings.start ∙ begun.begun.start;
        from = made.settings.from ∙ begun.begun.from;
      };
      not_after = last.before;
      last = last.after;
      end = made.settings.end ∙ end;
      opening_is = match_map g.M.Machine.text c.in_ok-opening.field-0.opening _ _ begun.opening;
      texts_are = rw (← begun.next) made.texts;
      ticks_are = rw (← begun.next) made.ticks_are;
      marking = made.marking;
      forward = rw (← begun.next) made.forward;
      within = rw (← end) made.inside;
      met_is = met_at_end _ _ _ _ _ _ end made.met_is;
      none_before = made.none_before;
    })

pub returns-clause-edits : goal.returns-clause-edits
returns-clause-edits g c = c.in_ok-ready.ensures.edits
