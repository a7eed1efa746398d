-- What the bytes of the parts of a row are: fields, numbers, lists of numbers, and texts.
use Rattle.std.specs.Prelude.{◌≡◌, ℕ, ◌≤◌, Bool, true, ◌==◌, if◌then◌else◌, List, []}
use Rattle.std.specs.Prelude.{◌∷◌, ◌++◌, length, IsTrue}
use Rattle.std.specs.List.{list_all}
use Rattle.base_lines.specs.Bytes.{is_blank, is_nonblank, is_all_blank, is_digit, number_of}
use Rattle.data_rows.specs.declared.number.Number.{Number}
use Rattle.data_rows.specs.declared.number.Number.TheVariants.{Natural, Negative}

-- whether a field that goes up to here ends here
abbrev pub ends_field : List ℕ → Bool
ends_field [] = true
ends_field (b ∷ bytes) = is_blank b

-- any blanks, a field, which is a run of nonblanks, and the rest, which is empty or begins with a
-- blank
pub record BeginsWithField (bytes field rest : List ℕ) : Type 0 where
  pub blanks : List ℕ
  pub parts : bytes ≡ blanks ++ (field ++ rest)
  pub all_blank : IsTrue (is_all_blank blanks)
  pub some : 1 ≤ length field
  pub all_nonblank : IsTrue (list_all is_nonblank field)
  pub ended : IsTrue (ends_field rest)

-- 1 to 9 digits, which write the number
pub record WritesNatural (digits : List ℕ) (number : ℕ) : Type 0 where
  pub some : 1 ≤ length digits
  pub few : length digits ≤ 9
  pub all_digits : IsTrue (list_all is_digit digits)
  pub value : number_of digits ≡ number

-- the number that a minus sign and digits write; that of 0 is 0
abbrev pub negative : ℕ → Number
negative n = if n == 0 then Natural 0 else Negative n

-- 1 to 9 digits, with a minus sign before them or without one
pub data WritesNumber : List ℕ → Number → Type 0 where
  unsigned : {digits : List ℕ} {n : ℕ} → WritesNatural digits n → WritesNumber digits (Natural n)
  signed : {digits : List ℕ} {n : ℕ} → WritesNatural digits n
      → WritesNumber (45 ∷ digits) (negative n)

-- the first field writes the number
pub record BeginsWithNumber (bytes : List ℕ) (number : Number) (rest : List ℕ) : Type 0 where
  pub field : List ℕ
  pub begins : BeginsWithField bytes field rest
  pub writes : WritesNumber field number

-- numbers, one after another, and the rest
pub data BeginsWithNumbers : List ℕ → List Number → List ℕ → Type 0 where
  no_number : {bytes : List ℕ} → BeginsWithNumbers bytes [] bytes
  number_then : {bytes : List ℕ} {number : Number} {rest : List ℕ} {numbers : List Number}
      {last : List ℕ}
      → BeginsWithNumber bytes number rest → BeginsWithNumbers rest numbers last
      → BeginsWithNumbers bytes (number ∷ numbers) last

-- a number that may be left out at the end of the line, and is 0 there
pub data MayBeginWithNumber : List ℕ → Number → List ℕ → Type 0 where
  left_out : {bytes : List ℕ} → IsTrue (is_all_blank bytes)
      → MayBeginWithNumber bytes (Natural 0) []
  written : {bytes : List ℕ} {number : Number} {rest : List ℕ}
      → BeginsWithNumber bytes number rest → MayBeginWithNumber bytes number rest

-- numbers up to a 0 or to the end of the line; what follows the 0 may be anything
pub data IsNumberList : List ℕ → List Number → Type 0 where
  line_ends : {bytes : List ℕ} → IsTrue (is_all_blank bytes) → IsNumberList bytes []
  zero_ends : {bytes rest : List ℕ} → BeginsWithNumber bytes (Natural 0) rest
      → IsNumberList bytes []
  goes_on : {bytes : List ℕ} {number : Number} {rest : List ℕ} {numbers : List Number}
      → BeginsWithNumber bytes number rest → ¬ (number ≡ Natural 0) → IsNumberList rest numbers
      → IsNumberList bytes (number ∷ numbers)

-- what follows a number: nothing, or one blank and the text
abbrev pub IsTextAfter : List ℕ → List ℕ → Type 0
IsTextAfter [] text = text ≡ []
IsTextAfter (byte ∷ bytes) text = IsTrue (is_blank byte) × (text ≡ bytes)
