-- The lines of bindings, which give roles and places their numbers.
use Rattle.std.specs.Prelude.{ℕ, ◌&&◌, nat_eq, nat_le, if◌then◌else◌, codes, List, [], ◌∷◌, ◌++◌}
use Rattle.std.specs.Prelude.{drop, option_to_list, Result, Ok, Err}
use Rattle.std.specs.Option.{ok_or}
use Rattle.std.specs.Result.{result_ok}
use Rattle.std.specs.List.{starts_with}
use Rattle.std.specs.Str.{bytes_eq}
use Rattle.data_rows.specs.declared.error.Cause.{Cause}
use Rattle.data_rows.specs.declared.error.BindingFlaw.TheVariants.{Malformed, BadValue}
use Rattle.data_rows.specs.declared.error.Cause.TheVariants.{BadBinding, UnknownRole}
use Rattle.data_rows.specs.declared.binding.Key.TheVariants.{RoleKey, PlaceKey, LettersKey}
use Rattle.data_rows.specs.declared.binding.Binding.{Binding}
use Rattle.base_lines.specs.LogLine.{is_skipped}
use Rattle.data_rows.specs.Fields.{fields, natural}
use Rattle.data_rows.specs.BindingGrammar.{position_of_name}
use Rattle.data_rows.specs.Rows.{◌>>=◌}
use Rattle.data_rows.specs.Role.{ROLE_NAMES}
use Rattle.data_rows.specs.PlaceRole.{PLACE_NAMES}
use Rattle.base_lines.specs.Numbers.{LAST_PLACE, LAST_MESSAGE}

-- a binding is two fields, a key and a number of 1 to 9 digits
abbrev pub two_fields : List (List ℕ) → Result (List ℕ × List ℕ) Cause
two_fields (key ∷ value ∷ []) = Ok (key, value)
two_fields others = Err (BadBinding Malformed)

abbrev pub bound_within : ℕ → ℕ → ℕ → Result ℕ Cause
bound_within low high n = if nat_le low n && nat_le n high then Ok n else Err (BadBinding BadValue)

abbrev pub role_binding : List ℕ → ℕ → Result Binding Cause
role_binding name n =
    bound_within 1 LAST_MESSAGE n >>= λ value. ok_or (position_of_name ROLE_NAMES name) UnknownRole
    >>= λ number. Ok (record { key = RoleKey number; value = value })

abbrev pub place_binding : List ℕ → ℕ → Result Binding Cause
place_binding name n =
    bound_within 1 LAST_PLACE n >>= λ value. ok_or (position_of_name PLACE_NAMES name) UnknownRole
    >>= λ number. Ok (record { key = PlaceKey number; value = value })

abbrev pub letters_binding : ℕ → Result Binding Cause
letters_binding n = bound_within 5 8 n >>= λ value. Ok (record { key = LettersKey; value = value })

-- what a key and a number bind: `msg.` and a role, `place.` and a place, or `num.letters`
abbrev pub binding_of : List ℕ → ℕ → Result Binding Cause
binding_of key n =
    if starts_with nat_eq key (codes "msg.") then role_binding (drop 4 key) n
    else (if starts_with nat_eq key (codes "place.") then place_binding (drop 6 key) n
    else (if bytes_eq key (codes "num.letters") then letters_binding n else Err UnknownRole))

unfoldable pub binding_row : List ℕ → Result Binding Cause
binding_row line = do
  pair ← two_fields (fields line)
  n ← ok_or (natural pair.1) (BadBinding Malformed)
  binding_of pair.0 n

-- the binding that a line states, if it states one
unfoldable pub binding_at : List ℕ → List Binding
binding_at line = if is_skipped line then [] else option_to_list (result_ok (binding_row line))

abbrev pub bindings_of : List (List ℕ) → List Binding
bindings_of [] = []
bindings_of (line ∷ lines) = binding_at line ++ bindings_of lines
