use Rattle.std.proofs.Common.{length}
use Rattle.cave_data.proofs.DatabaseLemmas.{ReadSoFar}
use Rattle.cave_data.proofs.database.read_database.Given as goal

abbrev pub invariant-loop-line : goal.invariant-loop-line
invariant-loop-line l = ReadSoFar l.database l.rest l.count l.reader

abbrev pub decreases-loop-line : goal.decreases-loop-line
decreases-loop-line l = length l.rest
