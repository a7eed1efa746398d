use Rattle.world_objects.specs.Lists.{halves_at}
use Rattle.world_objects.proofs.Walks.{IsLeft-first_half, is_ended}
use Rattle.world_objects.proofs.lists.ObjectLists.is_bare.Goals as goal

pub returns : goal.returns
returns c =
    let all = halves_at c.args.place c.args.self.now in
    rw c.first_at.ensures.value
    (is_ended c.args.self.now _ all
    (IsLeft-first_half c.args.place c.args.self.now c.first_at.ensures.lists
    c.first_at.ensures.within))
