use Rattle.std.proofs.Common.{◌≡◌, drop}
use Rattle.turn_clocks.specs.Repository.{without_all}
use Rattle.turn_clocks.proofs.repository.destroy_all.Given as goal

-- destroying the rest is destroying all
abbrev pub invariant-loop-object : goal.invariant-loop-object
invariant-loop-object l =
    without_all (drop l.object-index l.doomed) l.objects ≡ without_all l.doomed l.initial.objects
