-- The objects that rules name by a word of the cave: which object each name has there.
use Rattle.std.specs.Prelude.{ℕ, if◌then◌else◌, List, [], ◌++◌, codes, Option, Some, None}
use Rattle.std.specs.Prelude.{unwrap_or}
use Rattle.std.specs.Fmt.{decimal}
use Rattle.std.specs.List.{flat_map}
use Rattle.cave_words.specs.Named.{each_name, is_second, object_named, word_of_name}
use Rattle.cave_words.specs.declared.named.Named.{Named}
use Rattle.base_lines.specs.Line.{first_line}
use Rattle.cave_data.specs.CaveView.{CaveView, name_of}

-- a name as it is listed: its word, followed by a 2 if the name is of the object after the one that
-- the word names
abbrev pub label : Named → List ℕ
label name = word_of_name name ++ (if is_second name then codes "2" else [])

-- the first line of an object's inventory text, empty if it has none
abbrev pub inventory_line : CaveView → ℕ → List ℕ
inventory_line cave object = first_line (unwrap_or (name_of cave object) [])

-- the object of a name with its inventory text, or that there is none
abbrev pub object_columns : CaveView → Option ℕ → List ℕ
object_columns cave None = codes "absent\t"
object_columns cave (Some object) =
    decimal object ++ (codes "\t" ++ inventory_line cave object)

abbrev pub name_row : CaveView → Named → List ℕ
name_row cave name =
    label name ++ (codes "\t" ++ (object_columns cave (object_named cave name) ++ codes "\n"))

-- the names of the columns
unfoldable pub names_header : List ℕ
names_header = codes "name\tobject\ttext\n"

-- a row for each name
unfoldable pub names_table : CaveView → List ℕ
names_table cave = names_header ++ flat_map (name_row cave) each_name
