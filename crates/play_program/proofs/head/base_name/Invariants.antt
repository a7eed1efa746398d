-- The end of the whole path is that of what is left, after what was found so far.
use Rattle.std.proofs.Common.{◌≡◌, length}
use Rattle.play_program.specs.Head.{base_from, base_name}
use Rattle.play_program.proofs.head.base_name.Given as goal

abbrev pub invariant-loop-rest : goal.invariant-loop-rest
invariant-loop-rest l = base_from l.name l.rest ≡ base_name l.fn.path

abbrev pub decreases-loop-rest : goal.decreases-loop-rest
decreases-loop-rest l = length l.rest
