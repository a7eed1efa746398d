use Rattle.std.proofs.Common.{◌≡◌, ◌≤◌, length, take}
use Rattle.check_tables.specs.Known.{unknown}
use Rattle.check_tables.proofs.known.KnownList.unknown.Given as goal

abbrev pub invariant-loop-thing : goal.invariant-loop-thing
invariant-loop-thing g l =
    (l.left.items ≡ unknown (g.T.Entries.entry l.of) l.self (take l.thing-index l.things))
    × (length l.left.items ≤ l.thing-index)
