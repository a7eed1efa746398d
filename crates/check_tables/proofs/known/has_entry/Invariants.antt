use Rattle.std.proofs.Common.{◌≡◌, length}
use Rattle.check_tables.specs.Known.{has_entry}
use Rattle.check_tables.proofs.known.has_entry.Given as goal

abbrev pub invariant-loop-line : goal.invariant-loop-line
invariant-loop-line l = has_entry l.text l.entry ≡ has_entry l.rest l.entry

abbrev pub decreases-loop-line : goal.decreases-loop-line
decreases-loop-line l = length l.rest
