-- Each motion is the one of its number.
use Rattle.std.proofs.Common.{refl}
use Rattle.cave_world.specs.declared.motion.Motion.TheVariants as motion
use Rattle.cave_world.specs.Motions.{motion_of, motion_among, MotionsAreNumbered}

pub motions_are_numbered : MotionsAreNumbered
unfolding motion_of motion_among
motions_are_numbered motion.Any = refl
motions_are_numbered motion.Forward = refl
motions_are_numbered motion.Back = refl
motions_are_numbered motion.Out = refl
motions_are_numbered motion.Crawl = refl
motions_are_numbered motion.Inside = refl
motions_are_numbered motion.Nowhere = refl
motions_are_numbered motion.Up = refl
motions_are_numbered motion.Down = refl
motions_are_numbered motion.Left = refl
motions_are_numbered motion.Right = refl
motions_are_numbered motion.East = refl
motions_are_numbered motion.West = refl
motions_are_numbered motion.North = refl
motions_are_numbered motion.South = refl
motions_are_numbered motion.Northeast = refl
motions_are_numbered motion.Southeast = refl
motions_are_numbered motion.Southwest = refl
motions_are_numbered motion.Northwest = refl
motions_are_numbered motion.Look = refl
motions_are_numbered motion.Xyzzy = refl
motions_are_numbered motion.Depression = refl
motions_are_numbered motion.Entrance = refl
motions_are_numbered motion.Plugh = refl
motions_are_numbered motion.Cave = refl
motions_are_numbered motion.Plover = refl
