use Rattle.std.proofs.Common.{take}
use Rattle.base_text.specs.Text.{Tells}
use Rattle.play_cover.specs.Coverage.{names}
use Rattle.play_cover.proofs.coverage.put_names.Given as goal

abbrev pub invariant-loop-number : goal.invariant-loop-number
invariant-loop-number g l =
    Tells (names (g.T.Groups.catalogue l.of) l.group (take l.number-index l.numbers))
    l.initial.text l.text
