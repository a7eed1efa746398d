use Rattle.std.proofs.Common.{refl}
use Rattle.world_objects.proofs.Laid.{IsLaid-nowhere}
use Rattle.world_objects.proofs.objects.Objects.unplaced.Goals as goal

pub invariant_of-result : goal.invariant_of-result
invariant_of-result c =
    rw c.empty.ensures (IsLaid-nowhere _ _ _ (rw c.new.ensures refl) (rw c.new-2.ensures refl))
