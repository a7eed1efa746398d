use Rattle.std.proofs.Common.{◌≡◌, map, take}
use Rattle.cave_replay.proofs.copies.copy_pieces.Given as goal

abbrev pub invariant-loop-place : goal.invariant-loop-place
invariant-loop-place g l =
    map g.M.Machine.text l.copy.items ≡ take l.place (map g.M.Machine.text l.pieces.items)
