-- Labels of a graph: a text between quotes, how it is read back, and what one line is.
use Rattle.std.specs.Prelude.{ℕ, Bool, ◌==◌, ◌||◌, nat_lt, if◌then◌else◌, List, [], ◌∷◌, ◌++◌}
use Rattle.std.specs.Prelude.{codes, Option, Some, None, option_map, false, not, length}
use Rattle.std.specs.List.{flat_map, list_all}

abbrev pub LINE_FEED : ℕ
LINE_FEED = 10

abbrev pub BLANK : ℕ
BLANK = 32

abbrev pub QUOTE : ℕ
QUOTE = 34

abbrev pub AMPERSAND : ℕ
AMPERSAND = 38

abbrev pub QUESTION_MARK : ℕ
QUESTION_MARK = 63

abbrev pub BACKSLASH : ℕ
BACKSLASH = 92

-- the letter that is a line feed after a backslash
abbrev pub LETTER_N : ℕ
LETTER_N = 110

abbrev pub DELETE : ℕ
DELETE = 127

-- a control byte, which can't be in a picture
unfoldable pub is_control : ℕ → Bool
is_control byte = nat_lt byte BLANK || byte == DELETE

-- what a byte is between quotes
unfoldable pub escape_of : ℕ → List ℕ
escape_of byte =
    if byte == QUOTE || byte == BACKSLASH then BACKSLASH ∷ byte ∷ []
    else (if byte == LINE_FEED then BACKSLASH ∷ LETTER_N ∷ []
    else (if byte == AMPERSAND then codes "&amp;"
    else (if is_control byte then QUESTION_MARK ∷ [] else byte ∷ [])))

-- a text between quotes
abbrev pub label_of : List ℕ → List ℕ
label_of text = codes "\"" ++ (flat_map escape_of text ++ codes "\"")

-- a byte as a label shows it: one that can't be printed, and doesn't end a line, is a question mark
abbrev pub shown_byte : ℕ → ℕ
shown_byte byte =
    if byte == LINE_FEED then byte else (if is_control byte then QUESTION_MARK else byte)

-- what part of a label comes next: its bytes, the byte after a backslash, or an entity, with the
-- bytes that it goes on with
pub data LabelPart : Type 0 where
  InText : LabelPart
  AfterBackslash : LabelPart
  InEntity : List ℕ → LabelPart

-- after the bytes of an entity its text goes on
abbrev pub part_of_entity : List ℕ → LabelPart
part_of_entity [] = InText
part_of_entity (byte ∷ bytes) = InEntity (byte ∷ bytes)

abbrev pub with_first : ℕ → Option (List ℕ × List ℕ) → Option (List ℕ × List ℕ)
with_first byte read = option_map (λ r. (byte ∷ r.0, r.1)) read

-- the text up to the quote that ends it, and what follows the quote; the only entity is that of
-- an ampersand
abbrev pub text_of_label : LabelPart → List ℕ → Option (List ℕ × List ℕ)
text_of_label _ [] = None
text_of_label InText (byte ∷ bytes) =
    if byte == QUOTE then Some ([], bytes)
    else (if byte == BACKSLASH then text_of_label AfterBackslash bytes
    else (if byte == AMPERSAND then with_first byte (text_of_label (InEntity (codes "amp;")) bytes)
    else with_first byte (text_of_label InText bytes)))
text_of_label AfterBackslash (byte ∷ bytes) =
    with_first (if byte == LETTER_N then LINE_FEED else byte) (text_of_label InText bytes)
text_of_label (InEntity []) (byte ∷ bytes) = None
text_of_label (InEntity (wanted ∷ more)) (byte ∷ bytes) =
    if byte == wanted then text_of_label (part_of_entity more) bytes else None

-- no byte is a line feed
abbrev pub is_within_line : List ℕ → Bool
is_within_line bytes = list_all (λ byte. not (byte == LINE_FEED)) bytes

-- one line: a line feed ends it, and has none before it
abbrev pub is_one_line : List ℕ → Bool
is_one_line [] = false
is_one_line (byte ∷ bytes) = if byte == LINE_FEED then length bytes == 0 else is_one_line bytes
