use Rattle.std.proofs.Common.{ap, ◌∙◌}
use Rattle.world_objects.specs.Lists.{put_first}
use Rattle.world_objects.proofs.Relinked.{put_at_front}
use Rattle.world_objects.proofs.lists.ObjectLists.put_first_at.Goals as goal

pub invariant_of-self : goal.invariant_of-self
invariant_of-self c =
    let high = rw c.number.ensures.value at c.number.ensures.within in
    rw (c.from-at.ensures, c.number.ensures.value, c.from.ensures, c.number-number.ensures.value)
    (put_at_front c.self.inside c.args.half c.args.place c.self.invariant
    (rw (← c.self.view_is) at c.requires.new) c.number-number.ensures.object
    c.requires.somewhere high).1

pub returns : goal.returns
returns c =
    let high = rw c.number.ensures.value at c.number.ensures.within in
    rw (c.from-at.ensures, c.number.ensures.value, c.from.ensures, c.number-number.ensures.value)
    ((put_at_front c.self.inside c.args.half c.args.place c.self.invariant
    (rw (← c.self.view_is) at c.requires.new) c.number-number.ensures.object
    c.requires.somewhere high).0
    ∙ ap (λ es. put_first (record { place = c.args.place; half = c.args.half }) es) c.self.view_is)
