use Rattle.std.proofs.Common.{◌≡◌, take}
use Rattle.play_edits.specs.Refusal.{filled}
use Rattle.play_edits.proofs.refusal.LineCopy.of.Given as goal

abbrev pub invariant-loop-i : goal.invariant-loop-i
invariant-loop-i l = l.bytes ≡ filled (take l.i l.cut)
