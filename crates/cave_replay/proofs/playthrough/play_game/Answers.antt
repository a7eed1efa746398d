use Rattle.std.proofs.Common.{◌≡◌, ◌+◌, ◌<◌, length, ap, ◌∙◌, sym, refl, arith}
use Rattle.replay_edits.specs.Edit.{log_of, game_of, line_at}
use Rattle.cave_replay.specs.Agreement.{state_at}
use Rattle.replay_edits.proofs.Lines.{length-log_of, line_at-log_of, is_line-read}
use Rattle.cave_replay.proofs.Shifts.{state_at-more, texts_at-more, ticks_at-more}
use Rattle.cave_replay.proofs.playthrough.play_game.Goals as goal

pub play_line-requires-clause-line : goal.play_line-requires-clause-line
play_line-requires-clause-line g c =
    let items = c.deref-line-items.ensures.value in
    rw c.deref.ensures
    (is_line-read c.args.log.items c.loop-line.line-index c.line-item.result
    (rw items at c.loop-line-test.true) (rw items at c.line-item.is) c.requires.game.lines)

pub loop-line-preserved : goal.loop-line-preserved
loop-line-preserved g c =
    let items = c.deref-line-items.ensures.value in
    let log = log_of c.args.log.items in
    let rules = g.M.Machine.rules c.args.machine.now in
    let game = game_of c.args.seed log in
    let before = c.loop-line.invariant in
    let played = c.in_ok-play_line.ensures.plays in
    let index = c.loop-line.line-index in
    let below_items = rw items at c.loop-line-test.true in
    let n = length-log_of c.args.log.items in
    let below : index < length log = omega arith in
    let line : c.deref.result.now ≡ line_at log index = c.deref.ensures
    ∙ sym (line_at-log_of c.args.log.items index c.line-item.result below_items
    (rw items at c.line-item.is)) in
    let here : g.M.Machine.meaning c.loop-line.played.marks.state ≡ state_at rules game index =
    before.marking.next ∙ ap (state_at rules game) before.next in
    let next : c.play_line.new.played.marks.next ≡ index + 1 =
    played.next ∙ ap (λ k. k + 1) before.next in
    record {
      texts = played.pieces
          ∙ rw (before.texts, here, line) (sym (texts_at-more rules game index below));
      ticks = played.ticks_are
          ∙ rw (before.ticks, here, line) (sym (ticks_at-more rules game index below));
      marking =
          played.marking (state_at rules game) before.marking
          (ap (λ k. state_at rules game (k + 1)) before.next
          ∙ state_at-more rules game index below ∙ rw (here, line) refl);
      next = next;
      every = played.settings.every ∙ before.every;
      end = played.settings.end ∙ before.end;
      first = played.settings.start ∙ before.first;
      counted = let counted = before.counted in omega (arith, c.in_ok-play_line.ensures.counted);
    }
