-- What bindings say of a key.
use Rattle.std.specs.Prelude.{ℕ, ◌==◌, if◌then◌else◌, List, fold, Option, Some, None, is_some}
use Rattle.std.specs.List.{filter_map}
use Rattle.data_rows.specs.declared.binding.Key.{Key}
use Rattle.data_rows.specs.declared.binding.Key.TheVariants.{RoleKey, PlaceKey, LettersKey}
use Rattle.data_rows.specs.declared.binding.Binding.{Binding}
use Rattle.cave_data.specs.Database.{last_of}
use Rattle.std.specs.Ordering.{nat_cmp}
use Rattle.std.specs.FinMap as map

abbrev pub role_key : ℕ → Key → Option (ℕ × ℕ)
role_key value (RoleKey number) = Some (number, value)
role_key value key = None

abbrev pub place_key : ℕ → Key → Option (ℕ × ℕ)
place_key value (PlaceKey number) = Some (number, value)
place_key value key = None

abbrev pub letters_key : ℕ → Key → Option ℕ
letters_key value LettersKey = Some value
letters_key value key = None

abbrev pub role_value : Binding → Option (ℕ × ℕ)
role_value binding = role_key binding.value binding.key

abbrev pub place_value : Binding → Option (ℕ × ℕ)
place_value binding = place_key binding.value binding.key

abbrev pub letters_value : Binding → Option ℕ
letters_value binding = letters_key binding.value binding.key

abbrev pub latest : Option ℕ → ℕ → Option ℕ
latest old new = Some new

abbrev pub value_of : Key → List Binding → Option ℕ
value_of (RoleKey number) bindings = last_of number (filter_map role_value bindings)
value_of (PlaceKey number) bindings = last_of number (filter_map place_value bindings)
value_of LettersKey bindings = fold latest None (filter_map letters_value bindings)

-- the place where a game begins, if bindings don't say
abbrev pub DEFAULT_START : ℕ
DEFAULT_START = 1

-- the place where treasures are to be brought, if bindings don't say
abbrev pub DEFAULT_BUILDING : ℕ
DEFAULT_BUILDING = 3

-- the last place outside the cave, if bindings don't say
abbrev pub DEFAULT_OUTSIDE : ℕ
DEFAULT_OUTSIDE = 8

-- the first place of the cave's depths, if bindings don't say
abbrev pub DEFAULT_DEEP : ℕ
DEFAULT_DEEP = 15

-- how many letters of a word count, if bindings don't say
abbrev pub DEFAULT_LETTERS : ℕ
DEFAULT_LETTERS = 5

-- the places that have a role if bindings don't say: start, building, outside and deep
abbrev pub default_place : ℕ → Option ℕ
default_place n = if n == 0 then Some DEFAULT_START
    else (if n == 1 then Some DEFAULT_BUILDING
    else (if n == 2 then Some DEFAULT_OUTSIDE else (if n == 3 then Some DEFAULT_DEEP else None)))

abbrev pub or_default : ℕ → ℕ → map.FinMap nat_cmp ℕ → map.FinMap nat_cmp ℕ
or_default n place m = if is_some (map.get m n) then m else map.insert m n place

-- start, building, outside and deep
unfoldable pub with_defaults : map.FinMap nat_cmp ℕ → map.FinMap nat_cmp ℕ
with_defaults m =
    or_default 0 DEFAULT_START (or_default 1 DEFAULT_BUILDING
    (or_default 2 DEFAULT_OUTSIDE (or_default 3 DEFAULT_DEEP m)))
