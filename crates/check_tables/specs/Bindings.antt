-- The list of the bindings of a cave: each key with its number, and what the number means.
use Rattle.std.specs.Prelude.{ℕ, is_some, List, ◌++◌, length, codes, Option, None, Some}
use Rattle.std.specs.Prelude.{option_and_then}
use Rattle.std.specs.Option.{option_or}
use Rattle.std.specs.Fmt.{decimal}
use Rattle.std.specs.List.{filter, flat_map}
use Rattle.std.specs.FinMap as map
use Rattle.base_lines.specs.Line.{first_line}
use Rattle.cave_data.specs.CaveView.{CaveView}
use Rattle.data_rows.specs.PlaceRole.{PLACE_NAMES, each_place_role, place_name, place_number}
use Rattle.data_rows.specs.Role.{ROLE_NAMES, each_role, role_name, role_number}
use Rattle.data_rows.specs.declared.place_role.PlaceRole.{PlaceRole}
use Rattle.data_rows.specs.declared.role.Role.{Role}

-- what a number means: the first line of its text, or that it has none
abbrev pub meaning_of_number : List ℕ → Option (List ℕ) → List ℕ
meaning_of_number kind None = codes "no such " ++ kind
meaning_of_number kind (Some text) = first_line text

-- what follows a key on its line: the number that it is bound to, with what that means
abbrev pub binding_text : List ℕ → Option ℕ → Option (List ℕ) → List ℕ
binding_text kind None text = codes " unbound\n"
binding_text kind (Some number) text =
    codes " " ++ (decimal number ++ (codes ": " ++ (meaning_of_number kind text ++ codes "\n")))

unfoldable pub letters_line : ℕ → List ℕ
letters_line letters = codes "num.letters " ++ (decimal letters ++ codes "\n")

unfoldable pub message_sum : ℕ → List ℕ
message_sum count =
    codes "-- " ++ (decimal count
    ++ (codes " of " ++ (decimal (length ROLE_NAMES) ++ codes " messages and ")))

unfoldable pub place_sum : ℕ → List ℕ
place_sum count =
    decimal count
    ++ (codes " of " ++ (decimal (length PLACE_NAMES) ++ codes " places have a text\n"))

module _ (cave : CaveView) where
  -- the text that the number of a key has; a place is known by its long text, or otherwise by its
  -- short one
  abbrev pub message_text : Role → Option (List ℕ)
  message_text role =
      option_and_then (λ number. map.get cave.messages number)
      (map.get cave.roles (role_number role))

  abbrev pub place_text : PlaceRole → Option (List ℕ)
  place_text role =
      option_and_then (λ number. option_or (map.get cave.long number) (map.get cave.short number))
      (map.get cave.places (place_number role))

  unfoldable pub message_line : Role → List ℕ
  message_line role =
      codes "msg." ++ (role_name role
      ++ binding_text (codes "message") (map.get cave.roles (role_number role)) (message_text role))

  unfoldable pub place_line : PlaceRole → List ℕ
  place_line role =
      codes "place." ++ (place_name role
      ++ binding_text (codes "place") (map.get cave.places (place_number role)) (place_text role))

  -- how many keys have a text
  unfoldable pub message_count : ℕ
  message_count = length (filter (λ role. is_some (message_text role)) each_role)

  unfoldable pub place_count : ℕ
  place_count = length (filter (λ role. is_some (place_text role)) each_place_role)

  -- a line for each key, and the sums
  unfoldable pub bindings_text : List ℕ
  bindings_text =
      flat_map message_line each_role ++ (flat_map place_line each_place_role
      ++ (letters_line cave.letters ++ (message_sum message_count ++ place_sum place_count)))
