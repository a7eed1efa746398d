use Rattle.std.proofs.Common.{rules}
use Rattle.turn_scene.specs.Effects.{for_each_from}
use Rattle.turn_dwarves.proofs.knives.raid.Goals as goal

pub loop-number-init : goal.loop-number-init
unfolding for_each_from
loop-number-init g c = record { raid = search rules; says = search rules; few = search rules }

pub loop-number-preserved : goal.loop-number-preserved
unfolding for_each_from
loop-number-preserved g c = record { raid = search rules; says = search rules; few = search rules }
