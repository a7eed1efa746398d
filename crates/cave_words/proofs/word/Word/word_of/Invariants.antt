use Rattle.std.proofs.Common.{◌≡◌, map, take}
use Rattle.std.specs.Char.{to_ascii_uppercase}
use Rattle.cave_words.specs.Words.{with_padding}
use Rattle.cave_words.proofs.word.Word.word_of.Given as goal

abbrev pub invariant-loop-i : goal.invariant-loop-i
invariant-loop-i l = l.word ≡ with_padding (map to_ascii_uppercase (take l.i l.cut))
