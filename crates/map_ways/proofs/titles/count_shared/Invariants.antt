use Rattle.std.proofs.Common.{◌≡◌, ◌+◌, ◌-◌}
use Rattle.map_ways.specs.Titles.{MAX_TITLE_WORDS, count_shared, first_words, words_of_line}
use Rattle.map_ways.proofs.titles.count_shared.Given as goal

-- the words that were the same, with those that the rests share, are all
abbrev pub invariant-loop-shared : goal.invariant-loop-shared
invariant-loop-shared l =
    l.shared + count_shared (first_words (MAX_TITLE_WORDS - l.shared) l.rest)
    (first_words (MAX_TITLE_WORDS - l.shared) l.rest_of_other)
    ≡ count_shared (words_of_line l.line) (words_of_line l.other)
