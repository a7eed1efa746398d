use Rattle.std.proofs.Common.{◌∙◌}
use Rattle.world_objects.specs.Objects.{Layout}
use Rattle.world_objects.proofs.Laid.{anchor_listed}
use Rattle.world_objects.proofs.objects.Objects.anchor.Goals as goal

pub returns-clause-listed : goal.returns-clause-listed
returns-clause-listed c = λ low q.
    let i = c.self.inside in
    let l : Layout =
    record { first = i.first; second = i.second; props = i.props; lists = i.lists } in
    rw (← c.self.view_is, c.anchor.ensures)
    (anchor_listed l c.args.object c.from.result c.index-self-from.result c.self.invariant
    (c.from.ensures ∙ c.number.ensures.value) low
    (rw c.number.ensures.value at c.number.ensures.within) q)
