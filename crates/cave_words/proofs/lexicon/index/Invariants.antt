use Rattle.std.proofs.Common.{◌≡◌, ℕ, List, take}
use Rattle.cave_words.specs.Lexicon.{meanings_in}
use Rattle.cave_words.specs.Meanings.{meanings_of}
use Rattle.cave_words.proofs.lexicon.index.Given as goal

abbrev pub invariant-loop-i : goal.invariant-loop-i
invariant-loop-i l =
    (word : List ℕ) → meanings_in l.index.entries word
    ≡ meanings_of l.letters (take l.i l.words) word
