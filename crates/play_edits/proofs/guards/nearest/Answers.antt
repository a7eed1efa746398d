use Rattle.std.proofs.Common.{◌+◌, ◌<◌, drop, length, sym, subst, ap, ◌∙◌, arith}
use Rattle.std.specs.Option.{option_map_or}
use Rattle.play_edits.specs.Refusal.{IsNearest, found_with, log_in, nearest_from}
use Rattle.play_edits.proofs.NearestLemmas.{nearest-end, nearest-more, the_nearest}
use Rattle.play_edits.proofs.guards.nearest.Goals as goal

pub loop-at-preserved : goal.loop-at-preserved
loop-at-preserved c =
    let log = log_in c.args.draft.now in
    let place = c.args.place in
    let text = c.args.text.now in
    let at = c.loop-at.at in
    let inside : at < length log = omega (arith, c.loop-at-test.true, c.lines-lines.ensures) in
    ap (λ found. nearest_from place text (at + 1) found (drop (at + 1) log))
    (c.found_with-found.ensures
    ∙ ap (λ line. option_map_or (found_with place text c.loop-at.found at) line c.loop-at.found)
    c.line.ensures)
    ∙ sym (nearest-more place text log at c.loop-at.found inside) ∙ c.loop-at.invariant

pub returns : goal.returns
returns c =
    let log = log_in c.args.draft.now in
    let place = c.args.place in
    let text = c.args.text.now in
    let found = sym (nearest-end place text log c.loop-at.at c.loop-at.found
    (omega (arith, c.loop-at-test.false, c.lines-lines.ensures))) ∙ c.loop-at.invariant in
    record {
      value = found;
      nearest = subst (IsNearest place text log) (sym found) (the_nearest place text log);
    }
