-- The words of a line, and which letters of a word count.
use Rattle.std.specs.Prelude.{ℕ, List, [], ◌∷◌, Option, Some, None, option_map, ◌-◌, Bool, bytes_eq}
use Rattle.std.specs.Prelude.{◌++◌, map, take, length, replicate}
use Rattle.base_lines.specs.Bytes.{is_blank, is_nonblank, prefix_while, after_prefix}
use Rattle.cave_words.specs.declared.words.Words.{Words}
use Rattle.std.specs.Char.{to_ascii_uppercase}

-- the most letters of a word that can count
abbrev pub MAX_LETTERS : ℕ
MAX_LETTERS = 8

-- how many letters count in the words that rules write out
abbrev pub NAME_LETTERS : ℕ
NAME_LETTERS = 5

-- what counts of a word: its first letters, in upper case
abbrev pub letters_that_count : ℕ → List ℕ → List ℕ
letters_that_count letters bytes = map to_ascii_uppercase (take letters bytes)

-- the bytes, filled up with spaces to eight
abbrev pub with_padding : List ℕ → List ℕ
with_padding bytes = bytes ++ replicate (MAX_LETTERS - length bytes) 32

-- the word that a run of nonblanks makes
unfoldable pub word_of : ℕ → List ℕ → List ℕ
word_of letters bytes = with_padding (letters_that_count letters bytes)

-- the first five letters of a word are those of a word that a rule writes out
unfoldable pub is_written : List ℕ → List ℕ → Bool
is_written written word =
    bytes_eq (take NAME_LETTERS word) (take NAME_LETTERS (word_of NAME_LETTERS written))

-- a run of nonblanks, if there is one
abbrev pub some_run : List ℕ → Option (List ℕ)
some_run [] = None
some_run (byte ∷ bytes) = Some (byte ∷ bytes)

-- the first run of nonblanks of a line
unfoldable pub first_word_of : List ℕ → Option (List ℕ)
first_word_of line = some_run (prefix_while is_nonblank (after_prefix is_blank line))

unfoldable pub after_first_run : List ℕ → List ℕ
after_first_run line = after_prefix is_nonblank (after_prefix is_blank line)

-- the words of a line: its first two runs of nonblanks
unfoldable pub words_of : ℕ → List ℕ → Words
words_of letters line = record {
  first = option_map (word_of letters) (first_word_of line);
  second = option_map (word_of letters) (first_word_of (after_first_run line));
}
