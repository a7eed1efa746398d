use Rattle.std.proofs.Common.{sym}
use Rattle.world_objects.specs.Lists.{halves_at, listed_at}
use Rattle.world_objects.proofs.Laid.{others_absent}
use Rattle.world_objects.proofs.objects.Objects.carry.Goals as goal

pub returns-then-is_in_hands-clause-lists : goal.returns-then-is_in_hands-clause-lists
unfolding listed_at
returns-then-is_in_hands-clause-lists c = λ low q.
    sym (others_absent c.args.object (halves_at q c.args.self.now.lists)
    (c.is_in_hands.ensures.unlisted c.if-is_in_hands.true low q))
