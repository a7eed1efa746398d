use Rattle.std.proofs.Common.{◌∷◌, [], ap, ◌∙◌, sym, ℕ, List, arith}
use Rattle.std.proofs.lemmas.List.{map-append}
use Rattle.replay_edits.specs.LineText.{LineText}
use Rattle.replay_edits.specs.Edit.{log_of}
use Rattle.replay_edits.proofs.Lines.{take-log_of_more}
use Rattle.cave_replay.proofs.copies.copy_lines.Goals as goal

pub loop-place-preserved : goal.loop-place-preserved
loop-place-preserved c =
    let f : LineText → List ℕ = λ line. line.items in
    ap log_of c.in_ok-push.ensures.items
    ∙ map-append f c.loop-place.copy.items (c.in_ok-from_slice.field-0 ∷ [])
    ∙ rw (c.loop-place.invariant, c.in_ok-from_slice.ensures.ok, c.deref.ensures)
    (sym (take-log_of_more c.args.lines.now.items c.loop-place.place c.at.result.now
    (omega (arith, c.loop-place-test.true, c.len-place-end.ensures.len)) c.at.ensures))
