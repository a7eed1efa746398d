use Rattle.std.proofs.Common.{◌≡◌, ◌++◌, take}
use Rattle.std.specs.List.{flat_map}
use Rattle.check_doubts.specs.Doubts.{doubt_of}
use Rattle.check_doubts.specs.Needs.{need_flaw}
use Rattle.check_doubts.specs.declared.flaw.Source.TheVariants.{Database}
use Rattle.check_doubts.proofs.cave_doubts.push_object_doubts.Given as goal

abbrev pub invariant-loop-need : goal.invariant-loop-need
invariant-loop-need l =
    l.doubts.items ≡ l.initial.doubts.items
    ++ flat_map (λ need. doubt_of Database l.line (need_flaw l.rules.cave.now l.object need))
    (take l.need-index l.needs)
