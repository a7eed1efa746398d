-- Blanks, words and digits: what leads a line, and the number that digits write.
use Rattle.std.specs.Prelude.{ℕ, ◌+◌, ◌*◌, ◌-◌, Bool, not, ◌&&◌, ◌||◌, ◌==◌, nat_le, List, [], ◌∷◌}
use Rattle.std.specs.Prelude.{fold, if◌then◌else◌}
use Rattle.std.specs.List.{list_all}

-- a space or a tab
abbrev pub is_blank : ℕ → Bool
is_blank byte = byte == 32 || byte == 9

abbrev pub is_nonblank : ℕ → Bool
is_nonblank byte = not (is_blank byte)

-- only blanks, or nothing
abbrev pub is_all_blank : List ℕ → Bool
is_all_blank bytes = list_all is_blank bytes

abbrev pub is_digit : ℕ → Bool
is_digit byte = nat_le 48 byte && nat_le byte 57

-- the leading bytes that pass a test
abbrev pub prefix_while : (ℕ → Bool) → List ℕ → List ℕ
prefix_while test [] = []
prefix_while test (byte ∷ bytes) = if test byte then byte ∷ prefix_while test bytes else []

-- what follows the leading bytes that pass a test
abbrev pub after_prefix : (ℕ → Bool) → List ℕ → List ℕ
after_prefix test [] = []
after_prefix test (byte ∷ bytes) = if test byte then after_prefix test bytes else byte ∷ bytes

abbrev pub with_digit : ℕ → ℕ → ℕ
with_digit number digit = 10 * number + (digit - 48)

-- the number that digits write, the first digit counting most
abbrev pub number_of : List ℕ → ℕ
number_of digits = fold with_digit 0 digits
