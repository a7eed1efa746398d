-- Texts of JSON: strings and how they are read back, lists, and objects by their members.
use Rattle.std.specs.Prelude.{◌≡◌, ℕ, zero, suc, ◌+◌, ◌-◌, ◌*◌, ◌/◌, ◌%◌, Bool, ◌==◌, ◌||◌, ◌&&◌}
use Rattle.std.specs.Prelude.{nat_lt, nat_le, if◌then◌else◌, List, [], ◌∷◌, ◌++◌, codes, drop, false}
use Rattle.std.specs.Prelude.{Option, Some, None, option_map}
use Rattle.std.specs.Fmt.{digit_glyph}
use Rattle.std.specs.List.{flat_map}

abbrev pub TAB : ℕ
TAB = 9

abbrev pub LINE_FEED : ℕ
LINE_FEED = 10

abbrev pub QUOTE : ℕ
QUOTE = 34

abbrev pub BACKSLASH : ℕ
BACKSLASH = 92

-- the letters that are a line feed, a tab and a number after a backslash
abbrev pub LETTER_N : ℕ
LETTER_N = 110

abbrev pub LETTER_T : ℕ
LETTER_T = 116

abbrev pub LETTER_U : ℕ
LETTER_U = 117

-- ---- strings

-- a byte that is printed as it is: a blank, or one that leaves ink
abbrev pub is_printed : ℕ → Bool
is_printed byte = nat_le 32 byte && nat_lt byte 127

-- a byte by its number, in four digits of sixteen
abbrev pub numbered_byte : ℕ → List ℕ
numbered_byte byte =
    codes "\\u00" ++ (digit_glyph false (byte / 16) ∷ digit_glyph false (byte % 16) ∷ [])

-- what a byte is between the quotes of a string
unfoldable pub string_escape : ℕ → List ℕ
string_escape byte =
    if byte == QUOTE || byte == BACKSLASH then BACKSLASH ∷ byte ∷ []
    else (if byte == LINE_FEED then BACKSLASH ∷ LETTER_N ∷ []
    else (if byte == TAB then BACKSLASH ∷ LETTER_T ∷ []
    else (if is_printed byte then byte ∷ [] else numbered_byte byte)))

-- a text between quotes
abbrev pub quoted : List ℕ → List ℕ
quoted text = codes "\"" ++ (text ++ codes "\"")

abbrev pub json_string : List ℕ → List ℕ
json_string text = quoted (flat_map string_escape text)

-- a text, or that there is none
abbrev pub string_or_null : Option (List ℕ) → List ℕ
string_or_null None = codes "null"
string_or_null (Some text) = json_string text

-- ---- lists and objects

-- a value after another one
abbrev pub next_value : {X : Type 0} → (X → List ℕ) → X → List ℕ
next_value value x = codes "," ++ value x

-- a list of values with commas between them: each after a comma, without the first comma
abbrev pub json_list : {X : Type 0} → (X → List ℕ) → List X → List ℕ
json_list value xs = codes "[" ++ (drop 1 (flat_map (next_value value) xs) ++ codes "]")

-- a member of an object: its key, and its value
abbrev pub Member : Type 0
Member = List ℕ × List ℕ

abbrev pub member_text : Member → List ℕ
member_text (key, value) = codes "\"" ++ (key ++ (codes "\":" ++ value))

-- the first member of an object, and one after another one
abbrev pub first_member : Member → List ℕ
first_member member = codes "{" ++ member_text member

abbrev pub next_member : Member → List ℕ
next_member member = codes "," ++ member_text member

-- an object by its members, in their order
abbrev pub json_object : Member → List Member → List ℕ
json_object first members = first_member first ++ (flat_map next_member members ++ codes "}")

-- ---- how a string is read back

-- what comes next in a string: a byte, what follows a backslash, or a digit of the number of a
-- byte, which this many digits follow, and before which the digits wrote this number
pub data StringPart : Type 0 where
  AtByte : StringPart
  AtEscape : StringPart
  AtDigit : ℕ → ℕ → StringPart

-- the byte for which a letter stands after a backslash
abbrev pub byte_of_letter : ℕ → ℕ
byte_of_letter letter =
    if letter == LETTER_N then LINE_FEED else (if letter == LETTER_T then TAB else letter)

abbrev pub number_of_digit : ℕ → ℕ
number_of_digit digit = if nat_lt digit 58 then digit - 48 else digit - 87

abbrev pub after_byte : ℕ → Option (List ℕ × List ℕ) → Option (List ℕ × List ℕ)
after_byte byte read = option_map (λ r. (byte ∷ r.0, r.1)) read

-- the text up to the quote that ends it, and what follows that quote
abbrev pub text_of_string : StringPart → List ℕ → Option (List ℕ × List ℕ)
text_of_string _ [] = None
text_of_string AtByte (byte ∷ bytes) =
    if byte == QUOTE then Some ([], bytes)
    else (if byte == BACKSLASH then text_of_string AtEscape bytes
    else after_byte byte (text_of_string AtByte bytes))
text_of_string AtEscape (letter ∷ bytes) =
    if letter == LETTER_U then text_of_string (AtDigit 3 0) bytes
    else after_byte (byte_of_letter letter) (text_of_string AtByte bytes)
text_of_string (AtDigit zero before) (digit ∷ bytes) =
    after_byte (16 * before + number_of_digit digit) (text_of_string AtByte bytes)
text_of_string (AtDigit (suc left) before) (digit ∷ bytes) =
    text_of_string (AtDigit left (16 * before + number_of_digit digit)) bytes

-- what is between the quotes of a string reads back as its text, before any text that follows: no
-- byte of a text ends its string
abbrev pub StringsReadBack : Type 0
StringsReadBack =
    (text rest : List ℕ)
    → text_of_string AtByte (flat_map string_escape text ++ QUOTE ∷ rest) ≡ Some (text, rest)
