-- The rows of each section, and what is wrong with a line that isn't one.
use Rattle.std.specs.Prelude.{ℕ, ℤ, pos, negsuc, ◌+◌, ◌*◌, ◌%◌, Bool, false, ◌&&◌, ◌||◌, ◌==◌}
use Rattle.std.specs.Prelude.{nat_lt, nat_le, if◌then◌else◌, List, [], ◌∷◌, length, drop, Option}
use Rattle.std.specs.Prelude.{Some, None, option_map, Result, Ok, Err}
use Rattle.std.specs.Option.{ok_or}
use Rattle.data_rows.specs.declared.error.Cause.{Cause}
use Rattle.data_rows.specs.declared.error.Cause.TheVariants.{BadNumber, OutOfRange, TooManyRows}
use Rattle.data_rows.specs.declared.error.Section.{Section}
use Rattle.data_rows.specs.declared.number.Number.{Number}
use Rattle.data_rows.specs.declared.number.Number.TheVariants.{Natural, Negative}
use Rattle.data_rows.specs.declared.rows.Placement.{Placement}
use Rattle.data_rows.specs.declared.rows.Hint.{Hint}
use Rattle.data_rows.specs.Fields.{after_blanks, field, fields, number_of_field, number_at}
use Rattle.base_lines.specs.Numbers.{LAST_PLACE, LAST_OBJECT, LAST_NAMED, LAST_ACTION, LAST_HINT}
use Rattle.base_lines.specs.Numbers.{LAST_MESSAGE, LAST_PROP}

infixl 10 ◌>>=◌
abbrev pub ◌>>=◌ : {A B : Type 0} → Result A Cause → (A → Result B Cause) → Result B Cause
(Ok x) >>= f = f x
(Err cause) >>= f = Err cause

-- a line of a text, and the number that it is under
pub record TextLine : Type 0 where
  pub number : ℕ
  pub text : List ℕ

-- a way out of a place: where to, and the motions that take it
pub record Going : Type 0 where
  pub target : ℕ
  pub motions : List ℕ

-- a word and its number
pub record WordEntry : Type 0 where
  pub number : ℕ
  pub word : List ℕ

-- what a row of a section says
pub data Entry : Type 0 where
  LongLine : TextLine → Entry
  ShortLine : TextLine → Entry
  Way : ℕ → Going → Entry
  Word : WordEntry → Entry
  ObjectLine : TextLine → Entry
  MessageLine : TextLine → Entry
  PlacementRow : ℕ → Placement → Entry
  DefaultRow : ℕ → ℕ → Entry
  ConditionRow : ℕ → List ℕ → Entry
  ClassLine : TextLine → Entry
  HintRow : ℕ → Hint → Entry
  MagicLine : TextLine → Entry

-- Parts of rows: numbers first, then ranges, then limits, so that the lowest cause comes first.

abbrev pub number_or_cause : List ℕ → Result (Number × List ℕ) Cause
number_or_cause bytes = ok_or (number_at bytes) BadNumber

abbrev pub within : ℕ → ℕ → Number → Result ℕ Cause
within low high (Natural n) = if nat_le low n && nat_le n high then Ok n else Err OutOfRange
within low high (Negative n) = Err OutOfRange

abbrev pub is_zero : Number → Bool
is_zero (Natural n) = n == 0
is_zero (Negative n) = false

abbrev pub before_zero : Option Number → Option (List Number) → Option (List Number)
before_zero None later = None
before_zero (Some n) later = if is_zero n then Some [] else option_map (λ ns. n ∷ ns) later

-- the numbers up to a 0 or to the end of the line; what follows the 0 may be anything
abbrev pub numbers_to_zero : List (List ℕ) → Option (List Number)
numbers_to_zero [] = Some []
numbers_to_zero (f ∷ fs) = before_zero (number_of_field f) (numbers_to_zero fs)

abbrev pub list_in : List ℕ → Result (List Number) Cause
list_in bytes = ok_or (numbers_to_zero (fields bytes)) BadNumber

abbrev pub all_within : ℕ → ℕ → List Number → Result (List ℕ) Cause
all_within low high [] = Ok []
all_within low high (n ∷ ns) =
    within low high n >>= λ v. all_within low high ns >>= λ vs. Ok (v ∷ vs)

-- at least one number
abbrev pub some_of : List Number → Result (List Number) Cause
some_of ns = if nat_lt 0 (length ns) then Ok ns else Err BadNumber

-- at most forty numbers
abbrev pub few_of : List ℕ → Result (List ℕ) Cause
few_of ns = if nat_le (length ns) 40 then Ok ns else Err TooManyRows

-- the text after a number: what follows one blank, at most 255 bytes
abbrev pub text_or_cause : List ℕ → Result (List ℕ) Cause
text_or_cause bytes =
    if nat_le (length (drop 1 bytes)) 255 then Ok (drop 1 bytes) else Err OutOfRange

unfoldable pub text_line : ℕ → ℕ → List ℕ → Result TextLine Cause
text_line low high line = do
  n ← number_or_cause line
  number ← within low high n.0
  text ← text_or_cause n.1
  Ok (record { number = number; text = text })

-- a line of a text of an object begins with this number times a prop, or with an object
abbrev pub PROP_STEP : ℕ
PROP_STEP = 100

-- the last number that a line of a text of an object begins with
abbrev pub LAST_PROP_LINE : ℕ
LAST_PROP_LINE = PROP_STEP * LAST_PROP

-- an object, or a hundred times a prop of the object before
abbrev pub object_or_prop : Number → Result ℕ Cause
object_or_prop (Natural n) =
    if nat_le n LAST_NAMED || (nat_le n LAST_PROP_LINE && n % PROP_STEP == 0) then Ok n
    else Err OutOfRange
object_or_prop (Negative n) = Err OutOfRange

unfoldable pub object_line : List ℕ → Result TextLine Cause
object_line line = do
  n ← number_or_cause line
  number ← object_or_prop n.0
  text ← text_or_cause n.1
  Ok (record { number = number; text = text })

-- the last number of a motion
abbrev pub LAST_MOTION : ℕ
LAST_MOTION = 999

-- the last number of a target of a way, with its condition
abbrev pub LAST_TARGET : ℕ
LAST_TARGET = 999999

unfoldable pub way_row : List ℕ → Result (ℕ × Going) Cause
way_row line = do
  x ← number_or_cause line
  y ← number_or_cause x.1
  list ← list_in y.1
  ns ← some_of list
  place ← within 1 LAST_PLACE x.0
  target ← within 0 LAST_TARGET y.0
  all ← all_within 1 LAST_MOTION ns
  motions ← few_of all
  Ok (place, record { target = target; motions = motions })

-- how many numbers a class of words has: the numbers of motions come first, then those of objects,
-- of actions and of special words
abbrev pub WORDS_PER_CLASS : ℕ
WORDS_PER_CLASS = 1000

-- the words of objects come after this number, each of them its object's number later
abbrev pub OBJECT_WORDS : ℕ
OBJECT_WORDS = WORDS_PER_CLASS

-- the last number of the word of an object
abbrev pub LAST_OBJECT_WORD : ℕ
LAST_OBJECT_WORD = OBJECT_WORDS + LAST_OBJECT

-- the words of actions come after this number, each of them its action's number later
abbrev pub ACTION_WORDS : ℕ
ACTION_WORDS = 2 * WORDS_PER_CLASS

-- the last number of the word of an action
abbrev pub LAST_ACTION_WORD : ℕ
LAST_ACTION_WORD = ACTION_WORDS + LAST_ACTION

-- the special words come after this number, each of them its message's number later
abbrev pub SPECIAL_WORDS : ℕ
SPECIAL_WORDS = 3 * WORDS_PER_CLASS

-- the last number of a special word
abbrev pub LAST_SPECIAL_WORD : ℕ
LAST_SPECIAL_WORD = SPECIAL_WORDS + LAST_MESSAGE

-- a thousand times the class of a word, 0 to 3, and a number within the class that isn't 0
abbrev pub is_word_number : ℕ → Bool
is_word_number n =
    nat_le 1 (n % WORDS_PER_CLASS)
    && (nat_le n LAST_MOTION
    || ((nat_le OBJECT_WORDS n && nat_le n LAST_OBJECT_WORD)
    || ((nat_le ACTION_WORDS n && nat_le n LAST_ACTION_WORD)
    || (nat_le SPECIAL_WORDS n && nat_le n LAST_SPECIAL_WORD))))

abbrev pub word_number : Number → Result ℕ Cause
word_number (Natural n) = if is_word_number n then Ok n else Err OutOfRange
word_number (Negative n) = Err OutOfRange

-- the first field that is left
abbrev pub word_or_cause : List ℕ → Result (List ℕ) Cause
word_or_cause bytes = if nat_lt 0 (length (field (after_blanks bytes)))
    then Ok (field (after_blanks bytes)) else Err BadNumber

unfoldable pub word_row : List ℕ → Result WordEntry Cause
word_row line = do
  n ← number_or_cause line
  word ← word_or_cause n.1
  number ← word_number n.0
  Ok (record { number = number; word = word })

-- a number that may be left out at the end of the line, and is 0 there
abbrev pub number_or_zero : List ℕ → Result (Number × List ℕ) Cause
number_or_zero bytes = if length (after_blanks bytes) == 0 then Ok (Natural 0, [])
    else number_or_cause bytes

abbrev pub second_place : Number → Result ℤ Cause
second_place (Natural n) = if nat_le n LAST_PLACE then Ok (pos n) else Err OutOfRange
second_place (Negative n) = if n == 1 then Ok (negsuc 0) else Err OutOfRange

unfoldable pub placement_row : List ℕ → Result (ℕ × Placement) Cause
placement_row line = do
  x ← number_or_cause line
  p ← number_or_zero x.1
  q ← number_or_zero p.1
  object ← within 1 LAST_OBJECT x.0
  first ← within 0 LAST_PLACE p.0
  second ← second_place q.0
  Ok (object, record { first = first; second = second })

unfoldable pub default_row : List ℕ → Result (ℕ × ℕ) Cause
default_row line = do
  a ← number_or_cause line
  m ← number_or_cause a.1
  action ← within 1 LAST_ACTION a.0
  message ← within 0 LAST_MESSAGE m.0
  Ok (action, message)

unfoldable pub condition_row : List ℕ → Result (ℕ × List ℕ) Cause
condition_row line = do
  b ← number_or_cause line
  ns ← list_in b.1
  bit ← within 0 LAST_HINT b.0
  all ← all_within 1 LAST_PLACE ns
  places ← few_of all
  Ok (bit, places)

unfoldable pub hint_row : List ℕ → Result (ℕ × Hint) Cause
hint_row line = do
  h ← number_or_cause line
  t ← number_or_cause h.1
  p ← number_or_cause t.1
  q ← number_or_cause p.1
  x ← number_or_cause q.1
  hint ← within 1 LAST_HINT h.0
  turns ← within 0 9999 t.0
  points ← within 0 100 p.0
  question ← within 0 LAST_MESSAGE q.0
  text ← within 0 LAST_MESSAGE x.0
  Ok (hint, record { turns = turns; points = points; question = question; text = text })

-- the line, read as a row of a section
abbrev pub entry_in : Section → List ℕ → Result Entry Cause
entry_in Section.LongTexts line = text_line 1 LAST_PLACE line >>= λ row. Ok (LongLine row)
entry_in Section.ShortTexts line = text_line 1 LAST_PLACE line >>= λ row. Ok (ShortLine row)
entry_in Section.Travel line = way_row line >>= λ row. Ok (Way row.0 row.1)
entry_in Section.Words line = word_row line >>= λ row. Ok (Word row)
entry_in Section.Objects line = object_line line >>= λ row. Ok (ObjectLine row)
entry_in Section.Messages line = text_line 1 LAST_MESSAGE line >>= λ row. Ok (MessageLine row)
entry_in Section.Placements line = placement_row line >>= λ row. Ok (PlacementRow row.0 row.1)
entry_in Section.Defaults line = default_row line >>= λ row. Ok (DefaultRow row.0 row.1)
entry_in Section.Conditions line = condition_row line >>= λ row. Ok (ConditionRow row.0 row.1)
entry_in Section.Classes line = text_line 0 9999 line >>= λ row. Ok (ClassLine row)
entry_in Section.Hints line = hint_row line >>= λ row. Ok (HintRow row.0 row.1)
entry_in Section.Magic line = text_line 1 LAST_MESSAGE line >>= λ row. Ok (MagicLine row)
