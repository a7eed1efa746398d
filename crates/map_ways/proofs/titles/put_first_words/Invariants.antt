use Rattle.std.proofs.Common.{◌-◌}
use Rattle.base_text.specs.Text.{TellsUpTo}
use Rattle.map_ways.specs.Titles.{first_words, words_as_shown}
use Rattle.map_ways.proofs.titles.put_first_words.Given as goal

-- what was written, with the remaining words, is the whole
abbrev pub invariant-loop-shown : goal.invariant-loop-shown
invariant-loop-shown l =
    TellsUpTo (words_as_shown l.shown (first_words (l.most - l.shown) l.rest)) (words_as_shown 0
    (first_words l.most l.line)) l.initial.text l.text
