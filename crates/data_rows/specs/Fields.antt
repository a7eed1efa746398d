-- The fields of a line, which are its runs of nonblanks, and the numbers that they spell.
use Rattle.std.specs.Prelude.{ℕ, Bool, ◌&&◌, ◌==◌, nat_lt, nat_le, if◌then◌else◌, List, []}
use Rattle.std.specs.Prelude.{◌∷◌, length, Option, Some, None, option_map}
use Rattle.std.specs.List.{list_all, onto_first}
use Rattle.base_lines.specs.Bytes.{is_blank, is_nonblank, is_digit, prefix_while, after_prefix}
use Rattle.base_lines.specs.Bytes.{number_of}
use Rattle.data_rows.specs.declared.number.Number.{Number}
use Rattle.data_rows.specs.declared.number.Number.TheVariants.{Natural}
use Rattle.data_rows.specs.RowParts.{ends_field, negative}

-- what follows the leading blanks
abbrev pub after_blanks : List ℕ → List ℕ
after_blanks bytes = after_prefix is_blank bytes

-- the first field of these bytes
abbrev pub field : List ℕ → List ℕ
field bytes = prefix_while is_nonblank bytes

-- what follows the first field
abbrev pub after_field : List ℕ → List ℕ
after_field bytes = after_prefix is_nonblank bytes

abbrev pub with_byte : ℕ → Bool → List (List ℕ) → List (List ℕ)
with_byte b ends later = if is_blank b then later
    else (if ends then (b ∷ []) ∷ later else onto_first b later)

abbrev pub fields : List ℕ → List (List ℕ)
fields [] = []
fields (b ∷ bytes) = with_byte b (ends_field bytes) (fields bytes)

-- 1 to 9 digits
abbrev pub is_numeral : List ℕ → Bool
is_numeral digits = nat_lt 0 (length digits) && nat_le (length digits) 9 && list_all is_digit digits

-- the number that digits spell
unfoldable pub natural : List ℕ → Option ℕ
natural digits = if is_numeral digits then Some (number_of digits) else None

-- the number that a field spells: digits, with a minus sign before them or without one
unfoldable pub number_of_field : List ℕ → Option Number
number_of_field [] = None
number_of_field (b ∷ bytes) = if b == 45 then option_map negative (natural bytes)
    else option_map Natural (natural (b ∷ bytes))

-- the number in the first field, and what follows that
unfoldable pub number_at : List ℕ → Option (Number × List ℕ)
number_at bytes =
    option_map (λ n. (n, after_field (after_blanks bytes)))
    (number_of_field (field (after_blanks bytes)))
