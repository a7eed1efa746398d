use Rattle.std.proofs.Common.{◌≡◌, ◌+◌, ◌∷◌, [], map, get_or, ap, ◌∙◌, sym, arith}
use Rattle.std.proofs.lemmas.List.{map-append, map_more, take-map}
use Rattle.cave_replay.proofs.copies.copy_pieces.Goals as goal

pub loop-place-preserved : goal.loop-place-preserved
loop-place-preserved g c =
    let text = g.M.Machine.text in
    let pieces = c.args.pieces.now.items in
    let place = c.loop-place.place in
    let piece = c.at.result.now in
    let item : text piece ≡ text (get_or pieces place piece) = ap text c.at.ensures in
    ap (map text) c.in_ok-push.ensures.items
    ∙ map-append text c.loop-place.copy.items (c.in_ok-copy_piece.field-0 ∷ [])
    ∙ rw (c.loop-place.invariant, c.in_ok-copy_piece.ensures, item, take-map text place pieces)
    (sym (take-map text (place + 1) pieces
    ∙ map_more text pieces place piece (omega (arith, c.loop-place-test.true, c.len-place-end.ensures.len))))
