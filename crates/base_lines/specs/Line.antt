-- Which bytes and how many a line of a log may have, and what is wrong with another line.
use Rattle.std.specs.Prelude.{◌≡◌, ℕ, ◌<◌, ◌∷◌, ◌++◌, IsTrue, Bool, false, not, ◌==◌, ◌&&◌, ◌||◌}
use Rattle.std.specs.Prelude.{[], ◌+◌, nat_lt, nat_le, if◌then◌else◌, List, length, slice_index_or}
use Rattle.std.specs.Prelude.{codes, Option, None, Some}
use Rattle.std.specs.Fmt.{decimal}
use Rattle.std.specs.List.{list_all, prefix_len}
use Rattle.std.specs.Str.Lines.{lines}
use Rattle.base_lines.specs.Limits.{MAX_LINE_BYTES}
use Rattle.base_lines.specs.declared.line.LineFault.{LineFault}
use Rattle.base_lines.specs.declared.line.LineFault.TheVariants.{TooLong, BadByte}

-- from a blank to a tilde
abbrev pub is_printable : ℕ → Bool
is_printable byte = nat_le 32 byte && nat_le byte 126

-- printable ASCII, or a tab
abbrev pub is_line_byte : ℕ → Bool
is_line_byte byte = is_printable byte || byte == 9

-- a log may have a line: it isn't too long, and has only bytes that are allowed
unfoldable pub is_line : List ℕ → Bool
is_line line = not (nat_lt MAX_LINE_BYTES (length line)) && list_all is_line_byte line

-- the first line of a text, which is empty if the text is
abbrev pub first_line : List ℕ → List ℕ
first_line text = slice_index_or (lines text) 0 []

-- what is wrong with a line that isn't allowed in a log: how many bytes it has if there are too
-- many, otherwise the first byte that isn't allowed, and its column
unfoldable pub flaw_of : List ℕ → LineFault
flaw_of line =
    if nat_lt MAX_LINE_BYTES (length line) then TooLong (length line)
    else let place = prefix_len is_line_byte line in
    BadByte (slice_index_or line place 0) (place + 1)

-- what is wrong with a line, if it isn't allowed in a log
unfoldable pub line_fault : List ℕ → Option LineFault
line_fault line = if is_line line then None else Some (flaw_of line)

-- what is said of it
abbrev pub line_fault_text : LineFault → List ℕ
line_fault_text (TooLong bytes) =
    codes "the line has " ++ (decimal bytes
    ++ codes " bytes, and a line of a log has at most 255")
line_fault_text (BadByte byte column) =
    codes "the byte in column " ++ (decimal column ++ (codes " is " ++ (decimal byte
    ++ codes ", and a line of a log has printable ASCII, 32 to 126, and tabs")))

-- the first line of a text is this one, which a log may have, and the rest follows it
pub record StartsWithLine (text line rest : List ℕ) : Type 0 where
  pub first : lines text ≡ line ∷ lines rest
  pub good : IsTrue (is_line line)
  pub shorter : length rest < length text

-- a log may not have the first line of a text, for this reason
abbrev pub StartsWithFlaw : List ℕ → LineFault → Type 0
StartsWithFlaw text flaw =
    (line : List ℕ) × (rest : List (List ℕ)) × (lines text ≡ line ∷ rest) × (is_line line ≡ false)
    × (flaw ≡ flaw_of line)
