-- The messages that nothing in a cave can say.
use Rattle.std.specs.Prelude.{ℕ, ◌+◌, Bool, false, ◌==◌, ◌&&◌, ◌||◌, not, nat_le, is_some, List}
use Rattle.std.specs.Prelude.{[], ◌++◌, codes, Option, Some, None, unwrap_or}
use Rattle.std.specs.Fmt.{decimal}
use Rattle.std.specs.FinMap as map
use Rattle.std.specs.List.{filter, flat_map, list_any, range_with_len}
use Rattle.base_lines.specs.Line.{first_line}
use Rattle.cave_data.specs.CaveView.{CaveView, default_message, first_word, ways_from}
use Rattle.base_lines.specs.Numbers.{LAST_ACTION, LAST_HINT, LAST_MESSAGE, LAST_PLACE}
use Rattle.data_rows.specs.Role.{each_role, role_number}
use Rattle.data_rows.specs.Rows.{Going, SPECIAL_WORDS}
use Rattle.data_rows.specs.Targets.{destination_of}
use Rattle.data_rows.specs.declared.rows.Hint.{Hint}
use Rattle.data_rows.specs.declared.targets.Destination.{Destination}
use Rattle.data_rows.specs.declared.targets.Destination.TheVariants.{Message}

-- the numbers that places, actions, hints and messages may have
unfoldable pub place_numbers : List ℕ
place_numbers = range_with_len 1 LAST_PLACE

unfoldable pub action_numbers : List ℕ
action_numbers = range_with_len 1 LAST_ACTION

unfoldable pub hint_numbers : List ℕ
hint_numbers = range_with_len 1 LAST_HINT

unfoldable pub message_numbers : List ℕ
message_numbers = range_with_len 1 LAST_MESSAGE

abbrev pub is_number : ℕ → Option ℕ → Bool
is_number number None = false
is_number number (Some other) = other == number

abbrev pub is_message : ℕ → Destination → Bool
is_message number (Message other) = other == number
is_message number _ = false

abbrev pub row_says : ℕ → Going → Bool
row_says number row = is_message number (destination_of row.target)

-- a hint asks by a message, and gives another one
abbrev pub hint_says : ℕ → Option Hint → Bool
hint_says number None = false
hint_says number (Some hint) = hint.question == number || hint.text == number

-- What can say the message of a number.
module _ (cave : CaveView) (number : ℕ) where
  abbrev pub role_says : Bool
  role_says =
      list_any (λ role. is_number number (map.get cave.roles (role_number role))) each_role

  abbrev pub way_says : Bool
  way_says = list_any (λ place. list_any (row_says number) (ways_from cave place)) place_numbers

  abbrev pub verb_says : Bool
  verb_says = list_any (λ action. default_message cave action == number) action_numbers

  abbrev pub special_word_says : Bool
  special_word_says =
      nat_le number LAST_MESSAGE && is_some (first_word cave.words (SPECIAL_WORDS + number))

  abbrev pub some_hint_says : Bool
  some_hint_says = list_any (λ hint. hint_says number (map.get cave.hints hint)) hint_numbers

  -- a role that is bound to it, a row of travel, a verb by default, a special word, or a hint
  abbrev pub is_said : Bool
  is_said = role_says || way_says || verb_says || special_word_says || some_hint_says

  abbrev pub is_unused : Bool
  is_unused = is_some (map.get cave.messages number) && not is_said

-- the messages with a text that nothing says, in ascending order
unfoldable pub unused_messages : CaveView → List ℕ
unused_messages cave = filter (is_unused cave) message_numbers

abbrev pub unused_row : CaveView → ℕ → List ℕ
unused_row cave number =
    decimal number
    ++ (codes "\t" ++ (first_line (unwrap_or (map.get cave.messages number) []) ++ codes "\n"))

-- the names of the columns
unfoldable pub unused_header : List ℕ
unused_header = codes "message\ttext\n"

-- a row for each of them
unfoldable pub unused_table : CaveView → List ℕ
unused_table cave = unused_header ++ flat_map (unused_row cave) (unused_messages cave)
