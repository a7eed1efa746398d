-- Which lines are those of bindings, and what they bind.
use Rattle.std.specs.Prelude.{◌≡◌, ℕ, List, [], ◌∷◌, ◌++◌, Option, Some, codes, IsTrue}
use Rattle.std.specs.List.{position_from}
use Rattle.std.specs.Str.{bytes_eq}
use Rattle.base_lines.specs.Bytes.{is_all_blank}
use Rattle.base_lines.specs.LogLine.{is_skipped}
use Rattle.data_rows.specs.declared.binding.Key.{Key}
use Rattle.data_rows.specs.declared.binding.Key.TheVariants.{RoleKey, PlaceKey, LettersKey}
use Rattle.data_rows.specs.declared.binding.Binding.{Binding}
use Rattle.data_rows.specs.Role.{ROLE_NAMES}
use Rattle.data_rows.specs.PlaceRole.{PLACE_NAMES}
use Rattle.data_rows.specs.RowParts.{BeginsWithField, WritesNatural}
use Rattle.data_rows.specs.RowGrammar.{IsBetween}
use Rattle.base_lines.specs.Numbers.{LAST_PLACE, LAST_MESSAGE}

-- the number of a name in a table of names
abbrev pub position_of_name : List (List ℕ) → List ℕ → Option ℕ
position_of_name names name = position_from (λ known. bytes_eq known name) 0 names

-- the bytes of a key, which has the number of its name in the table of names
pub data IsKey : List ℕ → Key → Type 0 where
  role_key : {name : List ℕ} {number : ℕ} → position_of_name ROLE_NAMES name ≡ Some number
      → IsKey (codes "msg." ++ name) (RoleKey number)
  place_key : {name : List ℕ} {number : ℕ} → position_of_name PLACE_NAMES name ≡ Some number
      → IsKey (codes "place." ++ name) (PlaceKey number)
  letters_key : IsKey (codes "num.letters") LettersKey

-- the value is in the range of the key's family
abbrev pub IsValueOf : Key → ℕ → Type 0
IsValueOf (RoleKey number) value = IsBetween 1 LAST_MESSAGE value
IsValueOf (PlaceKey number) value = IsBetween 1 LAST_PLACE value
IsValueOf LettersKey value = IsBetween 5 8 value

-- The line is a key and 1 to 9 digits, with blanks between them and, optionally, at both ends.
pub record IsBindingLine (line : List ℕ) (binding : Binding) : Type 0 where
  pub key : List ℕ
  pub after_key : List ℕ
  pub digits : List ℕ
  pub after_digits : List ℕ
  pub begins : BeginsWithField line key after_key
  pub goes_on : BeginsWithField after_key digits after_digits
  pub ends : IsTrue (is_all_blank after_digits)
  pub is_key : IsKey key binding.key
  pub is_number : WritesNatural digits binding.value
  pub in_range : IsValueOf binding.key binding.value

-- Each line is blank, a comment or a binding, and these are the bindings.
pub data HasBindings : List (List ℕ) → List Binding → Type 0 where
  no_lines : HasBindings [] []
  skipped_line : {line : List ℕ} {lines : List (List ℕ)} {bindings : List Binding}
      → IsTrue (is_skipped line) → HasBindings lines bindings → HasBindings (line ∷ lines) bindings
  binding_line : {line : List ℕ} {binding : Binding} {lines : List (List ℕ)}
      {bindings : List Binding}
      → IsBindingLine line binding → HasBindings lines bindings
      → HasBindings (line ∷ lines) (binding ∷ bindings)
