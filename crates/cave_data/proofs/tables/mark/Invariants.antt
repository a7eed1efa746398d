use Rattle.std.proofs.Common.{◌≡◌, take, fold}
use Rattle.cave_data.specs.Tables.{mark_bit}
use Rattle.cave_data.proofs.tables.mark.Given as goal

abbrev pub invariant-loop-place : goal.invariant-loop-place
invariant-loop-place l =
    l.conditions ≡ fold (mark_bit l.bit) l.initial.conditions (take l.place-index l.places)
