-- The text of what a turn prints.
use Rattle.std.specs.Prelude.{ℕ, ℤ, pos, negsuc, List, [], ◌∷◌, ◌++◌, Option, Some, None}
use Rattle.std.specs.Prelude.{option_map, unwrap_or, slice_index_or, codes}
use Rattle.std.specs.FinMap as map
use Rattle.cave_data.specs.CaveView.{CaveView, name_of, look_of, class_of}
use Rattle.data_rows.specs.Role.{role_number, ROLE_NAMES}
use Rattle.data_rows.specs.declared.role.Role.{Role}
use Rattle.cave_world.specs.declared.part.Part.{Part}
use Rattle.turn_text.specs.OwnLines.{number_line, word_line, final_line}

abbrev pub or_nothing : Option (List ℕ) → List ℕ
or_nothing text = unwrap_or text []

abbrev pub message_text : CaveView → ℕ → List ℕ
message_text cave number = or_nothing (map.get cave.messages number)

-- the line that is printed for a role without a message: its name in brackets
abbrev pub name_line : Role → List ℕ
name_line role = codes "[" ++ slice_index_or ROLE_NAMES (role_number role) [] ++ codes "]\n"

abbrev pub role_text : CaveView → Option ℕ → Role → List ℕ
role_text cave None role = name_line role
role_text cave (Some number) role = message_text cave number

-- the text of an object for a prop; there is none for a prop below 0
abbrev pub look_text : CaveView → ℕ → ℤ → List ℕ
look_text cave object (pos prop) = or_nothing (look_of cave object prop)
look_text cave object (negsuc n) = []

abbrev pub class_text : CaveView → ℕ → List ℕ
class_text cave score = or_nothing (option_map (λ rating. rating.text) (class_of cave score))

-- what a part prints at a number of turns
unfoldable pub text_of_part : CaveView → ℕ → Part → List ℕ
text_of_part cave turns (Part.Long place) = or_nothing (map.get cave.long place)
text_of_part cave turns (Part.Short place) = or_nothing (map.get cave.short place)
text_of_part cave turns (Part.Message number) = message_text cave number
text_of_part cave turns (Part.Role role) =
    role_text cave (map.get cave.roles (role_number role)) role
text_of_part cave turns (Part.Object object prop) = look_text cave object prop
text_of_part cave turns (Part.Name object) = or_nothing (name_of cave object)
text_of_part cave turns (Part.Number form n most) = number_line form n most
text_of_part cave turns (Part.Word form word) = word_line form word
text_of_part cave turns (Part.Class score) = class_text cave score
text_of_part cave turns (Part.Turns score most) = final_line score most turns

-- what the parts print, one after another
abbrev pub text_of_all : CaveView → ℕ → List Part → List ℕ
text_of_all cave turns [] = []
text_of_all cave turns (p ∷ parts) = text_of_part cave turns p ++ text_of_all cave turns parts
