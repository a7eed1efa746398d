-- The kinds of texts of a cave, and what each text is called.
use Rattle.std.specs.Prelude.{ℕ, ◌/◌, ◌%◌, List, [], ◌∷◌, ◌++◌, codes, slice_index_or}
use Rattle.std.specs.Prelude.{Option, None, Some, option_map}
use Rattle.std.specs.Fmt.{decimal}
use Rattle.std.specs.FinMap as map
use Rattle.cave_data.specs.CaveView.{CaveView, Rated, class_of, look_of, name_of}
use Rattle.base_lines.specs.Line.{first_line}
use Rattle.data_rows.specs.Role.{ROLE_NAMES}
use Rattle.check_tables.specs.declared.text_kinds.TextKind.{TextKind}

-- the number of a look is that of its object times this, and its prop
abbrev pub PROPS_PER_OBJECT : ℕ
PROPS_PER_OBJECT = 100

-- its place among the kinds, from 0
abbrev pub kind_number : TextKind → ℕ
kind_number TextKind.Long = 0
kind_number TextKind.Short = 1
kind_number TextKind.Look = 2
kind_number TextKind.Name = 3
kind_number TextKind.Message = 4
kind_number TextKind.Role = 5
kind_number TextKind.Class = 6

-- the kinds in the order of the sections
abbrev pub kinds : List TextKind
kinds =
    TextKind.Long ∷ TextKind.Short ∷ TextKind.Look ∷ TextKind.Name ∷ TextKind.Message
    ∷ TextKind.Role ∷ TextKind.Class ∷ []

abbrev pub heading_of_kind : TextKind → List ℕ
heading_of_kind TextKind.Long = codes "long texts"
heading_of_kind TextKind.Short = codes "short texts"
heading_of_kind TextKind.Look = codes "object texts"
heading_of_kind TextKind.Name = codes "inventory texts"
heading_of_kind TextKind.Message = codes "messages"
heading_of_kind TextKind.Role = codes "roles"
heading_of_kind TextKind.Class = codes "classes"

-- the name for one text of a kind
abbrev pub word_of_kind : TextKind → List ℕ
word_of_kind TextKind.Long = codes "long text"
word_of_kind TextKind.Short = codes "short text"
word_of_kind TextKind.Look = codes "object text"
word_of_kind TextKind.Name = codes "inventory text"
word_of_kind TextKind.Message = codes "message"
word_of_kind TextKind.Role = codes "role"
word_of_kind TextKind.Class = codes "class"

-- how a text of a kind is named
abbrev pub name_of_text : TextKind → ℕ → List ℕ
name_of_text TextKind.Look number = decimal (number / PROPS_PER_OBJECT)
    ++ (codes ":" ++ decimal (number % PROPS_PER_OBJECT))
name_of_text TextKind.Role number = slice_index_or ROLE_NAMES number []
name_of_text _ number = decimal number

-- the text of a number; a role has none, since its message is a text of its own
abbrev pub text_at : CaveView → TextKind → ℕ → Option (List ℕ)
text_at cave TextKind.Long number = map.get cave.long number
text_at cave TextKind.Short number = map.get cave.short number
text_at cave TextKind.Look number = look_of cave (number / PROPS_PER_OBJECT) (number % PROPS_PER_OBJECT)
text_at cave TextKind.Name number = name_of cave number
text_at cave TextKind.Message number = map.get cave.messages number
text_at cave TextKind.Role number = None
text_at cave TextKind.Class number = option_map (λ (rated : Rated). rated.text)
    (class_of cave number)

-- what follows the name of a text: its first line, if there is one
abbrev pub first_line_shown : Option (List ℕ) → List ℕ
first_line_shown None = []
first_line_shown (Some text) = codes ": " ++ first_line text
