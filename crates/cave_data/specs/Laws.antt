-- How the texts, ways and treasures of a cave follow from the rows of its database.
use Rattle.std.specs.Prelude.{◌≡◌, ℕ, ◌≤◌, ◌<◌, Bool, false, true, ◌==◌, List, [], ◌∷◌, ◌++◌}
use Rattle.std.specs.Prelude.{length, map, filter, Some, None, is_some, pos, negsuc, ◌≤ℤ◌, IfSome}
use Rattle.std.specs.List.{filter_map, flat_map, list_all, list_any}
use Rattle.std.specs.FinMap.{get}
use Rattle.std.specs.Str.Lines.{lines}
use Rattle.data_rows.specs.declared.position.Position.TheVariants.{Outside}
use Rattle.cave_data.specs.CaveView.{CaveView, Texts, name_of, ways_from}
use Rattle.cave_data.specs.Printing.{printed_text}
use Rattle.data_rows.specs.DatabaseGrammar.{HasRows}
use Rattle.data_rows.specs.Rows.{Entry, TextLine}
use Rattle.cave_data.specs.Texts.{line_text, by_object}
use Rattle.data_rows.specs.SectionRows.{way_of, object_line_of, long_line_of, short_line_of}
use Rattle.data_rows.specs.SectionRows.{message_line_of}
use Rattle.base_lines.specs.Numbers.{LAST_NAMED, LAST_PLACE, LAST_MESSAGE}
use Rattle.std.specs.Ordering.{nat_cmp}
use Rattle.std.specs.FinMap as map
use Rattle.data_rows.specs.declared.rows.Placement.{Placement}
use Rattle.cave_data.specs.declared.bindings.Bindings.{Bindings}

abbrev pub has_number : ℕ → TextLine → Bool
has_number n line = line.number == n

-- The last run of lines of a number: no line of it comes later, and the line before the run has
-- another number.
pub record IsLastRun (n : ℕ) (lines before run later : List TextLine) : Type 0 where
  pub all : lines ≡ before ++ (run ++ later)
  pub some : 0 < length run
  pub same : list_all (has_number n) run ≡ true
  pub last : list_any (has_number n) later ≡ false
  pub apart : (front : List TextLine) (line : TextLine) → before ≡ front ++ line ∷ []
      → has_number n line ≡ false

-- The text of a number is its last run; a number without a line has no text.
pub record AreLastRuns (texts : Texts) (lines : List TextLine) : Type 0 where
  pub run : (n : ℕ) (before run later : List TextLine) → IsLastRun n lines before run later
      → get texts n ≡ Some (printed_text (flat_map line_text run))
  pub none : (n : ℕ) → list_any (has_number n) lines ≡ false → get texts n ≡ None

pub record Laws (rows : List Entry) (c : CaveView) : Type 0 where
  pub long : AreLastRuns c.long (filter_map long_line_of rows)
  pub short : AreLastRuns c.short (filter_map short_line_of rows)
  pub messages : AreLastRuns c.messages (filter_map message_line_of rows)
  pub objects : AreLastRuns c.objects (by_object 0 (filter_map object_line_of rows))
  -- the ways out of a place are the rows of section 3 that have it, in the order of the file
  pub travel : (place : ℕ)
      → ways_from c place
      ≡ map (λ row. row.1) (filter (λ row. row.0 == place) (filter_map way_of rows))
  -- an object, and so a treasure, is known exactly if a row of section 5 has its number
  pub known : (object : ℕ) → 1 ≤ object → object ≤ LAST_NAMED
      → is_some (name_of c object)
      ≡ list_any (has_number object) (filter_map object_line_of rows)

-- the laws hold of the rows of the database
abbrev pub KeepsLaws : List ℕ → CaveView → Type 0
KeepsLaws database c = (rows : List Entry) → HasRows Outside (lines database) rows → Laws rows c

abbrev pub IsPlace : ℕ → Type 0
IsPlace n = (1 ≤ n) × (n ≤ LAST_PLACE)

abbrev pub IsMessage : ℕ → Type 0
IsMessage n = (1 ≤ n) × (n ≤ LAST_MESSAGE)

-- this many letters of a word may count
abbrev pub IsLetters : ℕ → Type 0
IsLetters n = (5 ≤ n) × (n ≤ 8)

-- a first place, or 0, and a second place, or 0, or -1 for an object that can't be moved
pub record IsPlacementInRange (p : Placement) : Type 0 where
  pub first : p.first ≤ LAST_PLACE
  pub low : negsuc 0 ≤ℤ p.second
  pub high : p.second ≤ℤ pos LAST_PLACE

-- all values of a map have the property
abbrev pub HasOnly : {X : Type 0} → (X → Type 0) → map.FinMap nat_cmp X → Type 0
HasOnly IsSuch m = (n : ℕ) → IfSome (map.get m n) IsSuch

pub record AreInRange (b : Bindings) : Type 0 where
  pub roles : HasOnly IsMessage b.roles
  pub places : HasOnly IsPlace b.places
  pub letters : IfSome b.letters IsLetters
