use Rattle.std.proofs.Common.{◌≡◌, drop}
use Rattle.map_ways.specs.Titles.{WORDS_SHOWN, words_telling_all}
use Rattle.map_ways.proofs.titles.words_telling_all.Given as goal

-- what was found, with the remaining places, leads to the whole
abbrev pub invariant-loop-other : goal.invariant-loop-other
invariant-loop-other l =
    words_telling_all l.cave l.place l.least (drop l.other-index l.others)
    ≡ words_telling_all l.cave l.place WORDS_SHOWN l.others
