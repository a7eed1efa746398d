use Rattle.std.proofs.Common.{◌≡◌, ◌+◌, ◌<◌, length, ap, ◌∙◌, refl, arith}
use Rattle.std.proofs.lemmas.List.{append-nil}
use Rattle.replay_edits.specs.Edit.{line_at, log_of}
use Rattle.cave_replay.specs.ReadyEdits.{ready_revision, new_game}
use Rattle.cave_replay.specs.Replay.{states_of_new}
use Rattle.cave_replay.proofs.Bounds.{bounded_to, underway_none}
use Rattle.replay_edits.proofs.Lines.{length-log_of}
use Rattle.cave_replay.proofs.ReadyLemmas.{checkpoints_of, end_of}
use Rattle.cave_replay.proofs.Shifts.{texts_on, ticks_on, state_at-more}
use Rattle.cave_replay.proofs.Underways.{underway_start, underway_further, underway_agrees}
use Rattle.cave_replay.proofs.Underways.{underway_end}
use Rattle.cave_replay.proofs.segment.play_changed.Goals as goal

pub lines-init : goal.lines-init
lines-init g c =
    let n = length-log_of c.args.old.now.log.now.items in
    let before = c.requires.begun.before in
    let rules = g.M.Machine.rules c.args.machine.now in
    let checkpoints =
    checkpoints_of rules c.requires.ready (omega (arith, before.apart, before.every_is))
    c.requires.begun.lines c.places.ensures.spaced in
    let places = c.places.ensures.places in
    record {
      checkpoints = rw before.every_is checkpoints;
      ends = end_of rules c.requires.ready c.rest_after-new.ensures.rest;
      underway =
          underway_start checkpoints c.first_from-index.result c.args.marks.next
          (λ k below. let early = rw places at (c.first_from-index.ensures.before k below) in
          omega arith)
          (λ k from inside. let late =
          rw places at (c.first_from-index.ensures.after k from (rw places inside)) in
          omega arith)
          before.from;
      texts = rw c.new.ensures.items (append-nil _);
      ticks = rw c.new-2.ensures.items (append-nil _);
      marking = c.requires.begun.marking;
      settings = record { every = refl; end = refl; from = refl; start = refl };
      forward = omega arith;
      within = omega (arith, before.from, c.requires.ready.shift.within_new, before.end);
      unmet = refl;
      counted = refl;
    }

pub returns-in_default-clause-played : goal.returns-in_default-clause-played
returns-in_default-clause-played g c =
    let so_far = c.lines.invariant in
    record {
      texts = so_far.texts;
      ticks_are = so_far.ticks;
      marking = so_far.marking;
      settings = so_far.settings;
      forward = so_far.forward;
      inside = so_far.within;
      met_is =
          underway_agrees so_far.checkpoints so_far.ends so_far.underway
          (c.in_default.ensures _ _ c.requires.begun.old_states so_far.marking);
      none_before = underway_none so_far.underway;
    }

pub returns-in_default-clause-bounded : goal.returns-in_default-clause-bounded
returns-in_default-clause-bounded g c =
    let so_far = c.lines.invariant in
    let before = c.requires.begun.before in
    bounded_to so_far.checkpoints c.args.marks.next before.near c.lines.played.marks.next
    (omega (arith, before.end, so_far.within)) (underway_none so_far.underway) _
    (omega (arith, so_far.counted, so_far.forward))

pub returns-then-place-end-clause-played : goal.returns-then-place-end-clause-played
returns-then-place-end-clause-played g c =
    let so_far = c.lines.invariant in
    let before = c.requires.begun.before in
    let further =
    underway_further so_far.checkpoints so_far.ends so_far.underway c.in-Some.further
    (c.in-Some.ensures _ _ c.requires.begun.old_states so_far.marking) in
    let place = c.next-place.ensures.next in
    let new = new_game c.args.ready.now (log_of c.args.old.now.log.now.items) in
    let end : c.lines.played.marks.next ≡ length new.log =
    omega (arith, c.if-place-end.true, c.requires.ready.lines) in
    record {
      texts = so_far.texts;
      ticks_are = so_far.ticks;
      marking = so_far.marking;
      settings = so_far.settings;
      forward = so_far.forward;
      inside = so_far.within;
      met_is = rw (so_far.unmet, before.end)
          (underway_end so_far.checkpoints further (omega arith) _ end);
      none_before = underway_none so_far.underway;
    }

pub returns-then-place-end-clause-bounded : goal.returns-then-place-end-clause-bounded
returns-then-place-end-clause-bounded g c =
    let so_far = c.lines.invariant in
    let before = c.requires.begun.before in
    bounded_to so_far.checkpoints c.args.marks.next before.near c.lines.played.marks.next
    (omega (arith, before.end, so_far.within)) (underway_none so_far.underway) _
    (omega (arith, so_far.counted, so_far.forward))

pub lines-preserved : goal.lines-preserved
lines-preserved g c =
    let so_far = c.lines.invariant in
    let before = c.requires.begun.before in
    let revision =
    ready_revision (g.M.Machine.rules c.args.machine.now) c.args.old.now c.args.ready.now in
    let further =
    underway_further so_far.checkpoints so_far.ends so_far.underway c.in-Some.further
    (c.in-Some.ensures _ _ c.requires.begun.old_states so_far.marking) in
    let place = c.next-place.ensures.next in
    let played = c.in_ok-play_line.ensures.plays in
    let next : c.play_line.new.played.marks.next ≡ c.lines.played.marks.next + 1 = played.next in
    let below : c.lines.played.marks.next < length revision.new.log =
    omega (arith, c.if-place-end.false, c.requires.ready.lines, so_far.within, before.end) in
    let line : c.line-line.result.now ≡ line_at revision.new.log c.lines.played.marks.next =
    c.line-line.ensures ∙ ap (line_at revision.new.log) place in
    record {
      checkpoints = so_far.checkpoints;
      ends = so_far.ends;
      underway = rw next further;
      texts = texts_on revision.rules revision.new c.args.marks.next c.lines.played.marks.next
          _ _ _ _ _ below so_far.texts played.pieces so_far.marking.next line next;
      ticks = ticks_on revision.rules revision.new c.args.marks.next c.lines.played.marks.next
          _ _ _ _ _ below so_far.ticks played.ticks_are so_far.marking.next line next;
      marking =
          played.marking (states_of_new revision) so_far.marking
          (state_at-more revision.rules revision.new c.lines.played.marks.next below
          ∙ rw (so_far.marking.next, line) refl);
      settings = let further = played.settings in record {
        every = further.every ∙ so_far.settings.every;
        end = further.end ∙ so_far.settings.end;
        from = further.from ∙ so_far.settings.from;
        start = further.start ∙ so_far.settings.start;
      };
      forward = omega (arith, next, so_far.forward);
      within = omega (arith, next, before.end, so_far.within);
      unmet = played.met ∙ so_far.unmet;
      counted = omega (arith, next, so_far.counted, c.in_ok-play_line.ensures.counted);
    }

pub returns-in_err-play_line-clause-bounded : goal.returns-in_err-play_line-clause-bounded
returns-in_err-play_line-clause-bounded g c =
    let so_far = c.lines.invariant in
    let before = c.requires.begun.before in
    let further =
    underway_further so_far.checkpoints so_far.ends so_far.underway c.in-Some.further
    (c.in-Some.ensures _ _ c.requires.begun.old_states so_far.marking) in
    let place = c.next-place.ensures.next in
    let new = new_game c.args.ready.now (log_of c.args.old.now.log.now.items) in
    let below : c.lines.played.marks.next < length new.log =
    omega (arith, c.if-place-end.false, c.requires.ready.lines, so_far.within, before.end) in
    let risen = c.in_err-play_line.ensures.risen in
    bounded_to so_far.checkpoints c.args.marks.next before.near (c.lines.played.marks.next + 1)
    (omega arith) (underway_none further) _
    (omega (arith, so_far.counted, so_far.forward, risen.risen, risen.bounded))
