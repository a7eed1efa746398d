use Rattle.std.proofs.Common.{replicate, refl}
use Rattle.world_objects.proofs.Relinked.{emptied}
use Rattle.world_objects.proofs.lists.ObjectLists.empty.Goals as goal

pub invariant_of-result : goal.invariant_of-result
invariant_of-result c =
    (emptied (record { first = replicate 300 0; next = replicate 200 0 }) refl refl).1

pub returns : goal.returns
returns c = (emptied (record { first = replicate 300 0; next = replicate 200 0 }) refl refl).0
