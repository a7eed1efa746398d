use Rattle.std.proofs.Common.{◌≡◌, ◌-◌, ◌++◌, List, length}
use Rattle.world_objects.specs.declared.object.Half.{Half}
use Rattle.world_objects.specs.Lists.{halves_at}
use Rattle.world_objects.proofs.Walks.{IsLeft}
use Rattle.world_objects.proofs.lists.ObjectLists.at.Given as goal

-- what was returned and what is left make up the list
abbrev pub invariant-loop-number : goal.invariant-loop-number
invariant-loop-number l =
    (rest : List Half)
    × ((l.halves.items ++ rest ≡ halves_at l.fn.place l.self) × IsLeft l.self l.number rest)

abbrev pub decreases-loop-number : goal.decreases-loop-number
decreases-loop-number l = length (halves_at l.fn.place l.self) - length l.halves.items
