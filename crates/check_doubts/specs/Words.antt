-- Words that an earlier row of the same word hides.
use Rattle.std.specs.Prelude.{ℕ, Bool, true, false, ◌==◌, ◌&&◌, ◌||◌, not, List, length, Option}
use Rattle.std.specs.Prelude.{Some, None}
use Rattle.std.specs.List.{filter, slice_get}
use Rattle.cave_data.specs.CaveView.{CaveView}
use Rattle.check_tables.specs.Unused.{is_number}
use Rattle.cave_words.specs.Meanings.{meaning, meaning_in, meaning_of, same_class}
use Rattle.cave_words.specs.Named.{object_named}
use Rattle.cave_words.specs.Words.{word_of}
use Rattle.cave_words.specs.declared.meaning.Class.{Class}
use Rattle.cave_words.specs.declared.meaning.Meaning.{Meaning}
use Rattle.cave_words.specs.declared.named.Named.{Named}
use Rattle.data_rows.specs.Rows.{WordEntry}
use Rattle.data_lines.specs.Marks.{is_word_row}
use Rattle.data_lines.specs.declared.mark.MarkedRow.{MarkedRow}

abbrev pub is_meant : Option Meaning → Meaning → Bool
is_meant None meaning = false
is_meant (Some found) meaning =
    same_class found.class meaning.class && found.number == meaning.number

-- rules look up objects and special words by their class too
abbrev pub is_looked_up : Class → Bool
is_looked_up Class.Object = true
is_looked_up Class.Special = true
is_looked_up _ = false

module _ (cave : CaveView) where
  -- what a row means is found by its word
  abbrev pub is_found : List ℕ → Meaning → Bool
  is_found word means =
      is_meant (meaning cave word) means
      || (is_looked_up means.class && is_meant (meaning_in cave word means.class) means)

  -- these objects have these two names
  abbrev pub are_named : ℕ → ℕ → Named → Named → Bool
  are_named one other first second =
      is_number one (object_named cave first) && is_number other (object_named cave second)

  -- the one object is that of ROD, PLANT or TROLL, and the other the next one, which rules know too
  abbrev pub is_pair : ℕ → ℕ → Bool
  is_pair one other =
      are_named one other Named.Rod Named.SecondRod
      || are_named one other Named.Plant Named.SecondPlant
      || are_named one other Named.Troll Named.SecondTroll

  -- what is found by the word is the first object of such a pair, and what the row means the second
  abbrev pub is_second_of : Option Meaning → Meaning → Bool
  is_second_of None means = false
  is_second_of (Some found) means =
      same_class means.class Class.Object && is_pair found.number means.number

  abbrev pub is_hidden_word : List ℕ → Meaning → Bool
  is_hidden_word word means =
      not (is_found word means) && not (is_second_of (meaning_in cave word Class.Object) means)

  -- the word means something else
  abbrev pub is_hidden : Option WordEntry → Bool
  is_hidden None = false
  is_hidden (Some row) = is_hidden_word (word_of cave.letters row.word) (meaning_of row.number)

  -- the word of a row, by the rows before it
  abbrev pub word_of_row : List MarkedRow → Option WordEntry
  word_of_row before = slice_get cave.words (length (filter is_word_row before))
