use Rattle.std.proofs.Common.{◌≡◌, drop}
use Rattle.cave_data.specs.CaveView.{first_word}
use Rattle.cave_data.proofs.words.WordTable.first_word.Given as goal

-- no word before this one has the number
abbrev pub invariant-loop-index : goal.invariant-loop-index
invariant-loop-index l =
    first_word (drop l.index l.self) l.number ≡ first_word l.self l.number
