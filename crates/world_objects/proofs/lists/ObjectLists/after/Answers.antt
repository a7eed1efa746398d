use Rattle.std.proofs.Common.{ap, ◌∙◌}
use Rattle.world_objects.specs.Links.{next_half}
use Rattle.world_objects.proofs.Chains.{value_at-next}
use Rattle.world_objects.proofs.lists.ObjectLists.after.Goals as goal

pub returns : goal.returns
returns c =
    rw c.from.ensures
    (value_at-next c.self.inside c.args.number c.self.invariant c.requires.some
    c.requires.within
    ∙ ap (λ es. next_half c.args.number es) c.self.view_is)
