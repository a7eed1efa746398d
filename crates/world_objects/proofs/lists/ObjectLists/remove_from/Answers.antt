use Rattle.std.proofs.Common.{sym}
use Rattle.world_objects.proofs.Found.{without_absent, Lacks_unlisted}
use Rattle.world_objects.proofs.lists.ObjectLists.remove_from.Goals as goal

pub returns-in_default : goal.returns-in_default
returns-in_default c =
    sym (without_absent c.args.number c.args.self.now
    (Lacks_unlisted c.args.number c.args.place c.args.self.now c.requires.only
    c.in_default.ensures))
