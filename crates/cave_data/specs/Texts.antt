-- Texts: which lines of a section make the text of a number.
use Rattle.std.specs.Prelude.{ℕ, ◌+◌, ◌*◌, ◌/◌, Bool, ◌&&◌, ◌==◌, nat_lt, nat_le, if◌then◌else◌}
use Rattle.std.specs.Prelude.{List, [], ◌∷◌, ◌++◌, reverse, fold, Option, Some, None, option_map}
use Rattle.std.specs.List.{flat_map}
use Rattle.data_rows.specs.Rows.{TextLine}
use Rattle.cave_data.specs.Printing.{printed_text}
use Rattle.base_lines.specs.Numbers.{LAST_NAMED}

-- a line with the line feed that ends it
abbrev pub line_text : TextLine → List ℕ
line_text line = line.text ++ 10 ∷ []

abbrev pub nonempty : {X : Type 0} → List X → Option (List X)
nonempty [] = None
nonempty (x ∷ xs) = Some (x ∷ xs)

-- the leading lines that have the number
abbrev pub same_run : ℕ → List TextLine → List TextLine
same_run n [] = []
same_run n (line ∷ lines) = if line.number == n then line ∷ same_run n lines else []

-- the first run of lines that have the number
abbrev pub first_lines_of : ℕ → List TextLine → List TextLine
first_lines_of n [] = []
first_lines_of n (line ∷ lines) = if line.number == n then line ∷ same_run n lines
    else first_lines_of n lines

-- the text of lines that are given from the last to the first
abbrev pub run_text : List TextLine → List ℕ
run_text run = flat_map line_text (reverse run)

-- the text of a number: the last run of adjacent lines that have it
unfoldable pub text_of_number : ℕ → List TextLine → Option (List ℕ)
text_of_number n lines =
    option_map (λ run. printed_text (run_text run)) (nonempty (first_lines_of n (reverse lines)))

-- Lines of section 5. A number up to the last named object is an object; any other number is a
-- hundred times a prop of the object before.

-- whether the line belongs to an object's inventory text, and not to a prop
abbrev pub names_object : TextLine → Bool
names_object line = nat_lt 0 line.number && nat_le line.number LAST_NAMED

-- the object whose texts follow a line
abbrev pub object_after : ℕ → TextLine → ℕ
object_after object line = if names_object line then line.number else object

-- the object whose texts follow these lines, or 0
abbrev pub object_after_lines : List TextLine → ℕ
object_after_lines lines = fold object_after 0 lines

-- an object's inventory text has the object's number, its text for a prop a hundred times that and
-- the prop
abbrev pub object_key : ℕ → TextLine → ℕ
object_key object line = if names_object line then line.number else 100 * object + line.number / 100

abbrev pub with_key : ℕ → TextLine → TextLine
with_key object line = record { number = object_key object line; text = line.text }

-- the lines under such numbers, if the texts of this object come first
abbrev pub by_object : ℕ → List TextLine → List TextLine
by_object object [] = []
by_object object (line ∷ lines) = with_key object line ∷ by_object (object_after object line) lines
