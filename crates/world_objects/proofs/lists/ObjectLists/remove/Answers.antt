use Rattle.std.proofs.Common.{sym}
use Rattle.world_objects.proofs.Found.{without_absent, Lacks_nowhere}
use Rattle.world_objects.proofs.lists.ObjectLists.remove.Goals as goal

pub returns-in-None : goal.returns-in-None
returns-in-None c =
    sym (without_absent c.args.number c.args.self.now
    (Lacks_nowhere c.args.number c.args.self.now (rw c.in-None.is at c.requires.only)))
