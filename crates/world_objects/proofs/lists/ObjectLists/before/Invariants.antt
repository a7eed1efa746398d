use Rattle.std.proofs.Common.{◌≡◌, ◌≢◌, List, length}
use Rattle.world_objects.specs.declared.object.Half.{Half}
use Rattle.world_objects.specs.Objects.{is_listed}
use Rattle.world_objects.specs.Lists.{halves_at}
use Rattle.world_objects.specs.Links.{next_half, halves_along}
use Rattle.world_objects.proofs.Walks.{IsLeft}
use Rattle.world_objects.proofs.lists.ObjectLists.before.Given as goal

-- the half is among those that are left if it is in the list, and isn't the first of them
abbrev pub invariant-loop-before : goal.invariant-loop-before
invariant-loop-before l =
    (rest : List Half)
    × (IsLeft l.self l.before rest
    × ((is_listed l.number rest ≡ is_listed l.number (halves_at l.fn.place l.self))
    × (l.before ≢ l.number)))

abbrev pub decreases-loop-before : goal.decreases-loop-before
decreases-loop-before l = length (halves_along (λ n. next_half n l.self) 200 l.before)
