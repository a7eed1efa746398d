use Rattle.std.proofs.Common.{true, false, sym, ap, ◌∙◌}
use Rattle.turn_ends.specs.Begin.{objects_due, start_order}
use Rattle.turn_ends.specs.Placing.{after_placing_all, after_hiding_treasures}
use Rattle.turn_scene.specs.Treasures.{known_treasures}
use Rattle.turn_ends.proofs.Begun.{after_placing_all-append, begun_is}
use Rattle.turn_ends.proofs.begin.place_all.Goals as goal

pub returns-clause-objects : goal.returns-clause-objects
unfolding start_order
returns-clause-objects c =
    let cave = c.args.cave.now in
    let once = c.hide_treasures-hidden.ensures.objects
    ∙ ap (λ o. after_hiding_treasures (known_treasures cave) o) c.requires in
    let twice = c.place_down.ensures ∙ ap (λ o. after_placing_all cave (objects_due cave true) o)
    once in
    let all = c.place_down-2.ensures ∙ ap (λ o. after_placing_all cave (objects_due cave false) o)
    twice in
    all ∙ (sym (after_placing_all-append cave (objects_due cave false) (objects_due cave true) _)
    ∙ begun_is cave)
