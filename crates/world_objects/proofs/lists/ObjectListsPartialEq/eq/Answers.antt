use Rattle.std.specs.Cmp.Lexicographic.{pointwise_decides}
use Rattle.std.proofs.lemmas.Bool.Decides.{same_from_decides}
use Rattle.world_objects.proofs.SameObjects.{entry_decides}
use Rattle.world_objects.proofs.lists.ObjectListsPartialEq.eq.Goals as goal

pub returns : goal.returns
returns c =
    same_from_decides _ _ c.is_same.ensures.value
    (pointwise_decides entry_decides c.args.self.now c.args.other.now)
