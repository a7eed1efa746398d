use Rattle.std.proofs.Common.{◌≡◌, drop}
use Rattle.std.specs.List.{find}
use Rattle.cave_words.specs.Meanings.{is_word_in}
use Rattle.cave_words.specs.Words.{NAME_LETTERS}
use Rattle.cave_words.specs.declared.meaning.Class.TheVariants.{Object}
use Rattle.cave_words.proofs.walked.object_of_word.Given as goal

-- no row before this one has the word
abbrev pub invariant-loop-at : goal.invariant-loop-at
invariant-loop-at l =
    find (is_word_in NAME_LETTERS l.word Object) (drop l.at l.words)
    ≡ find (is_word_in NAME_LETTERS l.word Object) l.words
