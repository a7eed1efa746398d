use Rattle.std.proofs.Common.{take}
use Rattle.base_text.specs.Text.{Tells}
use Rattle.check_tables.specs.Words.{word_columns}
use Rattle.check_tables.proofs.words.put_word_columns.Given as goal

abbrev pub invariant-loop-index : goal.invariant-loop-index
invariant-loop-index l =
    Tells (word_columns l.number (take l.index l.words))
    l.initial.text l.text
