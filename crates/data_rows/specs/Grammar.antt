-- Reading a database line by line: where each line is, and its rows.
use Rattle.std.specs.Prelude.{ℕ, Bool, false, ◌==◌, if◌then◌else◌, List, [], ◌∷◌}
use Rattle.std.specs.Prelude.{◌++◌, fold, Option, Some, None, option_map, option_to_list, unwrap_or}
use Rattle.std.specs.Result.{result_ok}
use Rattle.base_lines.specs.Bytes.{is_all_blank}
use Rattle.data_rows.specs.declared.error.Section.{Section}
use Rattle.data_rows.specs.declared.number.Number.{Number}
use Rattle.data_rows.specs.declared.number.Number.TheVariants.{Natural, Negative}
use Rattle.data_rows.specs.declared.position.Position.{Position}
use Rattle.data_rows.specs.declared.position.Position.TheVariants.{Outside, Inside, After}
use Rattle.data_rows.specs.Fields.{number_at}
use Rattle.data_rows.specs.Rows.{Entry, entry_in}

-- the section of a number from 1 to 12
abbrev pub section_of : ℕ → Option Section
section_of n =
    if n == 1 then Some Section.LongTexts
    else (if n == 2 then Some Section.ShortTexts
    else (if n == 3 then Some Section.Travel
    else (if n == 4 then Some Section.Words
    else (if n == 5 then Some Section.Objects
    else (if n == 6 then Some Section.Messages
    else (if n == 7 then Some Section.Placements
    else (if n == 8 then Some Section.Defaults
    else (if n == 9 then Some Section.Conditions
    else (if n == 10 then Some Section.Classes
    else (if n == 11 then Some Section.Hints
    else (if n == 12 then Some Section.Magic else None)))))))))))

-- where the next line is, after a line outside every section: 0 is the end, a number from 1 to 12
-- opens a section
abbrev pub position_after_number : ℕ → Option Position
position_after_number n = if n == 0 then Some After else option_map Inside (section_of n)

abbrev pub position_after_first : Number → Option Position
position_after_first (Natural n) = position_after_number n
position_after_first (Negative n) = None

abbrev pub heading_at : Option (Number × List ℕ) → Option Position
heading_at None = None
heading_at (Some n) = position_after_first n.0

-- what a line outside every section opens
unfoldable pub position_after_heading : List ℕ → Option Position
position_after_heading line = heading_at (number_at line)

abbrev pub is_minus_one : Option (Number × List ℕ) → Bool
is_minus_one None = false
is_minus_one (Some (Natural n, rest)) = false
is_minus_one (Some (Negative n, rest)) = n == 1

-- whether a line inside a section ends it: its first number is -1
unfoldable pub closes : List ℕ → Bool
closes line = is_minus_one (number_at line)

abbrev pub position_after_row : Position → List ℕ → Position
position_after_row Outside line = unwrap_or (position_after_heading line) Outside
position_after_row (Inside s) line = if closes line then Outside else Inside s
position_after_row After line = After

-- where the line after this one is
unfoldable pub position_after_line : Position → List ℕ → Position
position_after_line position line = if is_all_blank line then position
    else position_after_row position line

-- where the line after these lines is
abbrev pub position_after : List (List ℕ) → Position
position_after lines = fold position_after_line Outside lines

abbrev pub entry_here : Position → List ℕ → List Entry
entry_here Outside line = []
entry_here (Inside s) line = if closes line then []
    else option_to_list (result_ok (entry_in s line))
entry_here After line = []

-- the row that a line is at its place, if it is one
unfoldable pub entry_at : Position → List ℕ → List Entry
entry_at position line = if is_all_blank line then [] else entry_here position line

abbrev pub entries_from : Position → List (List ℕ) → List Entry
entries_from position [] = []
entries_from position (line ∷ lines) =
    entry_at position line ++ entries_from (position_after_line position line) lines

-- the rows of these lines, in their order
abbrev pub entries : List (List ℕ) → List Entry
entries lines = entries_from Outside lines
