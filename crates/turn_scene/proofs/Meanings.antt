-- Numbers of meanings are below how many numbers a class of words has.
use Rattle.std.proofs.Common.{ℕ, ◌<◌, List, Option, Some, None, arith}
use Rattle.std.specs.Prelude.{option_map, find}
use Rattle.data_rows.specs.Rows.{WordEntry, WORDS_PER_CLASS}
use Rattle.cave_data.specs.CaveView.{CaveView}
use Rattle.cave_words.specs.Meanings.{meaning_in, meaning_of, is_word_in}
use Rattle.cave_words.specs.declared.meaning.Class.TheVariants.{Special}
use Rattle.turn_scene.specs.SpecialWords.{number_or_none, special}

-- the meaning of a row of words has a number in this range
row_below : (row : Option WordEntry)
    → number_or_none (option_map (λ r. meaning_of r.number) row) < WORDS_PER_CLASS
row_below None = omega arith
row_below (Some r) = omega arith

pub special_below : (cave : CaveView) (word : List ℕ) → special cave word < WORDS_PER_CLASS
unfolding special meaning_in
special_below cave word = row_below (find (is_word_in cave.letters word Special) cave.words)

pub ruleset specials = special_below
