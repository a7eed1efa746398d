-- The texts of a cave, each by its kind and its number, and which of them a part says.
use Rattle.std.specs.Prelude.{ℕ, ◌+◌, ◌*◌, ◌/◌, ◌%◌, ℤ, pos, negsuc, Bool, false, ◌==◌, nat_lt}
use Rattle.std.specs.Prelude.{is_some, if◌then◌else◌, List, [], ◌∷◌, ◌++◌, codes, length}
use Rattle.std.specs.Prelude.{Option, Some, None}
use Rattle.std.specs.List.{filter, list_any, flat_map, range_with_len}
use Rattle.std.specs.FinMap as map
use Rattle.cave_data.specs.CaveView.{CaveView, Rated, class_of, look_of, name_of}
use Rattle.turn_ends.specs.Score.{max_score_of}
use Rattle.data_rows.specs.Role.{ROLE_NAMES, role_number}
use Rattle.cave_world.specs.declared.part.Part.{Part}
use Rattle.check_tables.specs.declared.text_kinds.TextKind.{TextKind}
use Rattle.check_tables.specs.TextKinds.{PROPS_PER_OBJECT, first_line_shown, heading_of_kind}
use Rattle.check_tables.specs.TextKinds.{kind_number, kinds, name_of_text, text_at, word_of_kind}
use Rattle.play_cover.specs.Coverage.{Catalogue}
use Rattle.check_tables.specs.Marks.{mark}
use Rattle.check_tables.specs.declared.marks.Mark.{Mark}

-- the numbers of texts are below this
abbrev pub end_of_numbers : ℕ
end_of_numbers = 10000

-- the mark of a text
abbrev pub text : TextKind → ℕ → Mark
text kind number = mark (kind_number kind) number

-- ---- which texts a cave has

-- the class is one with that bound
abbrev pub has_bound : Option Rated → ℕ → Bool
has_bound None bound = false
has_bound (Some rated) bound = rated.bound == bound

-- some score of the cave, from 0 to the greatest, belongs to the class with that bound
unfoldable pub is_class_reached : CaveView → ℕ → Bool
is_class_reached cave bound =
    list_any (λ score. has_bound (class_of cave score) bound)
    (range_with_len 0 (max_score_of cave + 1))

-- whether the cave has the text; a class to which no score of the cave belongs isn't one of its
-- texts
abbrev pub has_text : CaveView → TextKind → ℕ → Bool
has_text cave TextKind.Long number = is_some (map.get cave.long number)
has_text cave TextKind.Short number = is_some (map.get cave.short number)
has_text cave TextKind.Look number =
    is_some (look_of cave (number / PROPS_PER_OBJECT) (number % PROPS_PER_OBJECT))
has_text cave TextKind.Name number = is_some (name_of cave number)
has_text cave TextKind.Message number = is_some (map.get cave.messages number)
has_text cave TextKind.Role number = nat_lt number (length ROLE_NAMES)
has_text cave TextKind.Class number = is_class_reached cave number

-- the texts of a kind that the cave has, in ascending order
unfoldable pub texts_of_kind : CaveView → TextKind → List ℕ
texts_of_kind cave kind = filter (has_text cave kind) (range_with_len 0 end_of_numbers)

-- the entry of a text that was never said
abbrev pub text_entry : CaveView → TextKind → ℕ → List ℕ
text_entry cave kind number =
    word_of_kind kind ++ (codes " " ++ (name_of_text kind number
    ++ first_line_shown (text_at cave kind number)))

abbrev pub cave_texts : CaveView → Catalogue TextKind
cave_texts cave = record {
  groups = kinds;
  number = kind_number;
  heading = heading_of_kind;
  present = texts_of_kind cave;
  name = name_of_text;
  indent = [];
  words = text_entry cave;
}

-- ---- which texts a part says

-- a role that is bound also says its message
abbrev pub message_said : Option ℕ → List Mark
message_said None = []
message_said (Some number) = text TextKind.Message number ∷ []

abbrev pub class_said : Option Rated → List Mark
class_said None = []
class_said (Some rated) = text TextKind.Class rated.bound ∷ []

abbrev pub look_said : CaveView → ℕ → ℤ → List Mark
look_said cave object (pos prop) =
    if is_some (look_of cave object prop)
    then text TextKind.Look (PROPS_PER_OBJECT * object + prop) ∷ [] else []
look_said cave object (negsuc n) = []

-- the texts that a part says; the game's own lines aren't texts of the cave
unfoldable pub said_by_part : CaveView → Part → List Mark
said_by_part cave (Part.Long place) = text TextKind.Long place ∷ []
said_by_part cave (Part.Short place) = text TextKind.Short place ∷ []
said_by_part cave (Part.Object object prop) = look_said cave object prop
said_by_part cave (Part.Name object) = text TextKind.Name object ∷ []
said_by_part cave (Part.Message number) = text TextKind.Message number ∷ []
said_by_part cave (Part.Role role) =
    text TextKind.Role (role_number role) ∷ message_said (map.get cave.roles (role_number role))
said_by_part cave (Part.Class score) = class_said (class_of cave score)
said_by_part cave (Part.Number form number most) = []
said_by_part cave (Part.Word form word) = []
said_by_part cave (Part.Turns score most) = []

abbrev pub said_by_all : CaveView → List Part → List Mark
said_by_all cave parts = flat_map (said_by_part cave) parts
