use Rattle.world_objects.proofs.SameObjects.{objects_decides}
use Rattle.play_machine.proofs.packed_state.are_same.Goals as goal

pub returns : goal.returns
returns c = rw c.eq.ensures (objects_decides c.args.objects.now c.args.others.now)
