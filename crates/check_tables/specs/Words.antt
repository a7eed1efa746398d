-- The table of the words of a cave, by what they mean.
use Rattle.std.specs.Prelude.{ℕ, Bool, ◌==◌, ◌*◌, ◌%◌, nat_lt, is_some, codes, if◌then◌else◌}
use Rattle.std.specs.Prelude.{List, [], ◌++◌}
use Rattle.std.specs.Fmt.{decimal}
use Rattle.std.specs.List.{filter, flat_map, range_with_len}
use Rattle.cave_data.specs.CaveView.{CaveView, first_word}
use Rattle.data_rows.specs.Rows.{ACTION_WORDS, OBJECT_WORDS, SPECIAL_WORDS, WORDS_PER_CLASS}
use Rattle.data_rows.specs.Rows.{WordEntry}

-- what words with a number are
abbrev pub class_name : ℕ → List ℕ
class_name number =
    if nat_lt number OBJECT_WORDS then codes "motion"
    else (if nat_lt number ACTION_WORDS then codes "object"
    else (if nat_lt number SPECIAL_WORDS then codes "action" else codes "special"))

-- the numbers that words may have
unfoldable pub word_numbers : List ℕ
word_numbers = range_with_len 0 (4 * WORDS_PER_CLASS)

-- some word has the number
abbrev pub is_meant : CaveView → ℕ → Bool
is_meant cave number = is_some (first_word cave.words number)

unfoldable pub meant_numbers : CaveView → List ℕ
meant_numbers cave = filter (is_meant cave) word_numbers

-- the column of a word, if it has the number
abbrev pub word_column : ℕ → WordEntry → List ℕ
word_column number entry = if entry.number == number then codes "\t" ++ entry.word else []

abbrev pub word_columns : ℕ → List WordEntry → List ℕ
word_columns number words = flat_map (word_column number) words

-- the class and the number in it, and then each word
abbrev pub words_row : CaveView → ℕ → List ℕ
words_row cave number =
    class_name number
    ++ (codes "\t" ++ (decimal (number % WORDS_PER_CLASS)
    ++ (word_columns number cave.words ++ codes "\n")))

-- the names of the columns
unfoldable pub words_header : List ℕ
words_header = codes "class\tnumber\twords\n"

-- a row for each number that words have
unfoldable pub words_table : CaveView → List ℕ
words_table cave = words_header ++ flat_map (words_row cave) (meant_numbers cave)
