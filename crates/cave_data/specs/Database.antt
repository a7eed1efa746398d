-- The relation between a database and a cave.
use Rattle.std.specs.Prelude.{◌≡◌, ℕ, ◌^◌, ◌≤◌, Bool, true, ◌==◌, List, [], ◌∷◌, length, map}
use Rattle.std.specs.Prelude.{reverse, fold, filter, Option, option_map, bit_or}
use Rattle.std.specs.List.{filter_map, find, list_any}
use Rattle.std.specs.FinMap.{get}
use Rattle.data_rows.specs.declared.position.Position.TheVariants.{Outside}
use Rattle.data_rows.specs.Rows.{Going, Entry, TextLine}
use Rattle.cave_data.specs.CaveView.{CaveView, ClassEntry}
use Rattle.cave_data.specs.Printing.{printed_text}
use Rattle.cave_data.specs.Texts.{line_text, nonempty, text_of_number, names_object, by_object}
use Rattle.data_rows.specs.DatabaseGrammar.{HasRows}
use Rattle.data_rows.specs.SectionRows.{way_of, word_entry_of, class_line_of, object_line_of}
use Rattle.data_rows.specs.SectionRows.{long_line_of, short_line_of, message_line_of}
use Rattle.data_rows.specs.SectionRows.{placement_of_row, default_of_row, marks_of_row, hint_of_row}
use Rattle.cave_data.specs.Limits.{MAX_WAYS, MAX_WORDS, MAX_CLASSES}

-- What the rows of a section say of a number.

-- what the last row of the number says
abbrev pub last_of : {X : Type 0} → ℕ → List (ℕ × X) → Option X
last_of n rows = option_map (λ row. row.1) (find (λ row. row.0 == n) (reverse rows))

-- the ways out of a place, in their order
abbrev pub goings_from : ℕ → List (ℕ × Going) → Option (List Going)
goings_from place rows = nonempty (map (λ row. row.1) (filter (λ row. row.0 == place) rows))

abbrev pub lists_place : ℕ → (ℕ × List ℕ) → Bool
lists_place place row = list_any (λ p. p == place) row.1

abbrev pub with_bit_of : ℕ → (ℕ × List ℕ) → ℕ
with_bit_of bits row = bit_or bits (2 ^ row.0)

-- the bits of the rows that list a place
abbrev pub bits_of : ℕ → List (ℕ × List ℕ) → Option ℕ
bits_of place rows = option_map (fold with_bit_of 0) (nonempty (filter (lists_place place) rows))

-- a class has one line of text
abbrev pub printed_class_of_line : TextLine → ClassEntry
printed_class_of_line line = record { bound = line.number; text = printed_text (line_text line) }

-- each prop of section 5 has an object before it, as the first row is an object's
abbrev pub BeginWithObject : List TextLine → Type 0
BeginWithObject [] = Unit {0}
BeginWithObject (line ∷ lines) = names_object line ≡ true

-- The rows are valid together.
pub record AreValidTogether (rows : List Entry) : Type 0 where
  pub ways : length (filter_map way_of rows) ≤ MAX_WAYS
  pub words : length (filter_map word_entry_of rows) ≤ MAX_WORDS
  pub classes : length (filter_map class_line_of rows) ≤ MAX_CLASSES
  pub objects : BeginWithObject (filter_map object_line_of rows)

-- The lines are those of a database, and its rows are valid together.
pub record IsDatabase (ls : List (List ℕ)) : Type 0 where
  pub rows : List Entry
  pub has_rows : HasRows Outside ls rows
  pub together : AreValidTogether rows

-- The cave has what these rows say.
pub record Holds (rows : List Entry) (c : CaveView) : Type 0 where
  pub long : (place : ℕ) → get c.long place ≡ text_of_number place (filter_map long_line_of rows)
  pub short : (place : ℕ) → get c.short place ≡ text_of_number place (filter_map short_line_of rows)
  pub travel : (place : ℕ) → get c.travel place ≡ goings_from place (filter_map way_of rows)
  pub words : c.words ≡ filter_map word_entry_of rows
  pub objects : (key : ℕ)
      → get c.objects key ≡ text_of_number key (by_object 0 (filter_map object_line_of rows))
  pub messages : (n : ℕ) → get c.messages n ≡ text_of_number n (filter_map message_line_of rows)
  pub placements : (object : ℕ)
      → get c.placements object ≡ last_of object (filter_map placement_of_row rows)
  pub defaults : (action : ℕ)
      → get c.defaults action ≡ last_of action (filter_map default_of_row rows)
  pub conditions : (place : ℕ)
      → get c.conditions place ≡ bits_of place (filter_map marks_of_row rows)
  pub classes : c.classes ≡ map printed_class_of_line (filter_map class_line_of rows)
  pub hints : (n : ℕ) → get c.hints n ≡ last_of n (filter_map hint_of_row rows)
