-- What a word means in a cave: what its first row in the file says.
use Rattle.std.specs.Prelude.{ℕ, List, Option, Some, None, fold, unwrap_or, if◌then◌else◌, ◌/◌, ◌%◌}
use Rattle.std.specs.Prelude.{Bool, ◌==◌, ◌&&◌, bytes_eq, option_map, find}
use Rattle.std.specs.Option.{option_or}
use Rattle.data_rows.specs.Rows.{WordEntry, WORDS_PER_CLASS}
use Rattle.cave_words.specs.declared.meaning.Class.{Class}
use Rattle.cave_words.specs.declared.meaning.Class.TheVariants.{Motion, Object, Action, Special}
use Rattle.cave_words.specs.declared.meaning.Meaning.{Meaning}
use Rattle.cave_words.specs.declared.meanings.Meanings.{Meanings}
use Rattle.cave_data.specs.CaveView.{CaveView}
use Rattle.cave_words.specs.Words.{word_of}

-- the class that the thousands of a row's number say
abbrev pub class_of_number : ℕ → Class
class_of_number number =
    if number / WORDS_PER_CLASS == 0 then Motion
    else (if number / WORDS_PER_CLASS == 1 then Object
    else (if number / WORDS_PER_CLASS == 2 then Action else Special))

abbrev pub meaning_of : ℕ → Meaning
meaning_of number = record { class = class_of_number number; number = number % WORDS_PER_CLASS }

abbrev pub class_number : Class → ℕ
class_number Motion = 0
class_number Object = 1
class_number Action = 2
class_number Special = 3

abbrev pub same_class : Class → Class → Bool
same_class c d = class_number c == class_number d

abbrev pub is_word : ℕ → List ℕ → WordEntry → Bool
is_word letters word row = bytes_eq (word_of letters row.word) word

abbrev pub is_word_in : ℕ → List ℕ → Class → WordEntry → Bool
is_word_in letters word class row = is_word letters word row
    && same_class (class_of_number row.number) class

-- what the first row that passes the test means
abbrev pub first_meaning : (WordEntry → Bool) → List WordEntry → Option Meaning
first_meaning test rows = option_map (λ row. meaning_of row.number) (find test rows)

-- what a word means in a cave: what its first row says
unfoldable pub meaning : CaveView → List ℕ → Option Meaning
meaning cave word = first_meaning (is_word cave.letters word) cave.words

-- what a word means in a class: what its first row of that class says
unfoldable pub meaning_in : CaveView → List ℕ → Class → Option Meaning
meaning_in cave word class = first_meaning (is_word_in cave.letters word class) cave.words

abbrev pub meaning_in_class : Class → Meanings → Option Meaning
meaning_in_class Motion meanings = meanings.motion
meaning_in_class Object meanings = meanings.object
meaning_in_class Action meanings = meanings.action
meaning_in_class Special meanings = meanings.special

-- a word with one meaning, before its class is counted
abbrev pub only_first : Meaning → Meanings
only_first meaning =
    record { first = meaning; motion = None; object = None; action = None; special = None }

-- the meanings with this one, which counts in its class if it is the first there
abbrev pub with_in_class : Class → Meaning → Meanings → Meanings
with_in_class Motion meaning meanings =
    record meanings { motion = option_or meanings.motion (Some meaning) }
with_in_class Object meaning meanings =
    record meanings { object = option_or meanings.object (Some meaning) }
with_in_class Action meaning meanings =
    record meanings { action = option_or meanings.action (Some meaning) }
with_in_class Special meaning meanings =
    record meanings { special = option_or meanings.special (Some meaning) }

-- the meanings of a word after one more row
unfoldable pub with_meaning : Option Meanings → Meaning → Meanings
with_meaning known meaning =
    with_in_class meaning.class meaning (unwrap_or known (only_first meaning))

-- the meanings of a word after a row, which may be another word's
abbrev pub with_row : ℕ → List ℕ → Option Meanings → WordEntry → Option Meanings
with_row letters word known row = if is_word letters word row
    then Some (with_meaning known (meaning_of row.number)) else known

unfoldable pub meanings_of : ℕ → List WordEntry → List ℕ → Option Meanings
meanings_of letters rows word = fold (with_row letters word) None rows
