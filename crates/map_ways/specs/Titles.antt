-- The title of a place: the first words of its text, as many as tell it from other places.
use Rattle.std.specs.Prelude.{◌≡◌, true, Bool, ℕ, zero, suc, ◌+◌, ◌%◌, ◌==◌, ◌&&◌, ◌||◌, not}
use Rattle.std.specs.Prelude.{nat_lt, if◌then◌else◌}
use Rattle.std.specs.Prelude.{List, [], ◌∷◌, ◌++◌, Option, None, Some, unwrap_or, length, bytes_eq}
use Rattle.std.specs.FinMap as map
use Rattle.map_ways.specs.Regions.{is_one_of}
use Rattle.base_lines.specs.Line.{first_line}
use Rattle.cave_data.specs.CaveView.{CaveView}
use Rattle.cave_words.specs.Words.{after_first_run, first_word_of}
use Rattle.map_ways.specs.Labels.{BLANK, LINE_FEED}

-- how many words a title has, if these tell it from the others
abbrev pub WORDS_SHOWN : ℕ
WORDS_SHOWN = 8

-- how many words of a line are looked at
abbrev pub MAX_TITLE_WORDS : ℕ
MAX_TITLE_WORDS = 40

-- the most words of a title on a line
abbrev pub WORDS_PER_LINE : ℕ
WORDS_PER_LINE = 3

-- what comes before a word that follows this many others. The number of the place is before the
-- first. To keep a place narrow, a title of eight words is on three lines, which have three, three
-- and two
abbrev pub word_start : ℕ → List ℕ
word_start shown =
    if not (shown == 0) && shown % WORDS_PER_LINE == 0 then LINE_FEED ∷ [] else BLANK ∷ []

abbrev pub words_from : Option (List ℕ) → List (List ℕ) → List (List ℕ)
words_from None others = []
words_from (Some word) others = word ∷ others

abbrev pub first_words : ℕ → List ℕ → List (List ℕ)
first_words zero line = []
first_words (suc most) line =
    words_from (first_word_of line) (first_words most (after_first_run line))

-- words that follow this many others, each with what comes before it
abbrev pub words_as_shown : ℕ → List (List ℕ) → List ℕ
words_as_shown shown [] = []
words_as_shown shown (word ∷ words) =
    word_start shown ++ (word ++ words_as_shown (shown + 1) words)

abbrev pub or_other : List ℕ → List ℕ → List ℕ
or_other text other = if length text == 0 then other else text

-- the short text of a place, or its long one if it has no short one, or one that prints nothing
abbrev pub text_for_title : CaveView → ℕ → List ℕ
text_for_title cave place =
    or_other (unwrap_or (map.get cave.short place) []) (unwrap_or (map.get cave.long place) [])

-- the line that a title is taken from: the first of that text
unfoldable pub title_source : CaveView → ℕ → List ℕ
title_source cave place = first_line (text_for_title cave place)

unfoldable pub words_of_line : List ℕ → List (List ℕ)
words_of_line line = first_words MAX_TITLE_WORDS line

-- there is no word, or it isn't the other one
abbrev pub parts_from : List ℕ → List ℕ → Bool
parts_from word other = length word == 0 || not (bytes_eq word other)

-- with how many of the same words both begin
abbrev pub count_shared : List (List ℕ) → List (List ℕ) → ℕ
count_shared [] others = 0
count_shared words [] = 0
count_shared (word ∷ words) (other ∷ others) =
    if bytes_eq word other then suc (count_shared words others) else 0

-- how many words tell a place from another: one more than both begin with
abbrev pub words_telling : CaveView → ℕ → ℕ → ℕ
words_telling cave place other =
    if place == other then 0
    else suc (count_shared (words_of_line (title_source cave place))
    (words_of_line (title_source cave other)))

abbrev pub greater_of : ℕ → ℕ → ℕ
greater_of one other = if nat_lt one other then other else one

-- how many words tell a place from each of others, and at least this many
abbrev pub words_telling_all : CaveView → ℕ → ℕ → List ℕ → ℕ
words_telling_all cave place least [] = least
words_telling_all cave place least (other ∷ others) =
    words_telling_all cave place (greater_of least (words_telling cave place other)) others

-- the words of the title of a place among others
abbrev pub title_words : CaveView → List ℕ → ℕ → List (List ℕ)
title_words cave places place =
    first_words (words_telling_all cave place WORDS_SHOWN places) (title_source cave place)

unfoldable pub title : CaveView → List ℕ → ℕ → List ℕ
title cave places place = words_as_shown 0 (title_words cave places place)

-- two places have one title only if the lines that it is taken from have the same words
abbrev pub TitlesTellApart : Type 0
TitlesTellApart =
    (cave : CaveView) (places : List ℕ) (place other : ℕ)
    → is_one_of places place ≡ true
    → is_one_of places other ≡ true
    → title_words cave places place ≡ title_words cave places other
    → words_of_line (title_source cave place) ≡ words_of_line (title_source cave other)
