use Rattle.std.proofs.Common.{drop}
use Rattle.base_text.specs.Text.{TellsUpTo}
use Rattle.map_ways.specs.WayTexts.{motions_after}
use Rattle.map_ways.proofs.way_texts.put_motions.Given as goal

-- what was written, with the remaining motions, is the whole
abbrev pub invariant-loop-shown : goal.invariant-loop-shown
invariant-loop-shown l =
    TellsUpTo (motions_after l.cave l.shown (drop l.shown l.motions)) (motions_after l.cave 0
    l.motions) l.initial.text l.text
