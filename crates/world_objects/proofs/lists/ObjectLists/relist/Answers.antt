use Rattle.world_objects.specs.Lists.{after_relist, half_number}
use Rattle.world_objects.proofs.Found.{only_at}
use Rattle.world_objects.proofs.Links.{low_number}
use Rattle.world_objects.proofs.Moves.{Lacks-taken}
use Rattle.world_objects.proofs.Places.{halves_at-after_relist}
use Rattle.world_objects.proofs.lists.ObjectLists.relist.Goals as goal

pub remove-requires-clause-some : goal.remove-requires-clause-some
remove-requires-clause-some c =
    rw c.number.ensures.value (low_number c.args.half c.requires.some)

pub remove-requires-clause-only : goal.remove-requires-clause-only
remove-requires-clause-only c =
    rw c.number.ensures.value
    (only_at (half_number c.args.half) c.args.from c.args.self.now c.requires.only)

pub put-requires-clause-new : goal.put-requires-clause-new
put-requires-clause-new c =
    rw (c.remove.ensures, c.number.ensures.value) (
      c.requires.some,
      (
        rw c.number.ensures.value at c.number.ensures.within,
        Lacks-taken
            (half_number c.args.half) c.args.self.now,
      ),
    )

pub returns-clause-lists : goal.returns-clause-lists
unfolding after_relist
returns-clause-lists c = λ q. rw (c.put.ensures, c.remove.ensures, c.number.ensures.value)
    (halves_at-after_relist c.args.half c.args.to c.args.self.now q)
