-- Which lines are those of a database, and its rows.
use Rattle.std.specs.Prelude.{ℕ, List, [], ◌∷◌, IsTrue}
use Rattle.base_lines.specs.Bytes.{is_all_blank}
use Rattle.data_rows.specs.declared.error.Section.{Section}
use Rattle.data_rows.specs.declared.number.Number.{Number}
use Rattle.data_rows.specs.declared.number.Number.TheVariants.{Natural, Negative}
use Rattle.data_rows.specs.declared.position.Position.{Position}
use Rattle.data_rows.specs.declared.position.Position.TheVariants.{Outside, Inside}
use Rattle.data_rows.specs.Rows.{Entry}
use Rattle.data_rows.specs.RowParts.{BeginsWithNumber}
use Rattle.data_rows.specs.RowGrammar.{IsRow}

abbrev pub section_number : Section → ℕ
section_number Section.LongTexts = 1
section_number Section.ShortTexts = 2
section_number Section.Travel = 3
section_number Section.Words = 4
section_number Section.Objects = 5
section_number Section.Messages = 6
section_number Section.Placements = 7
section_number Section.Defaults = 8
section_number Section.Conditions = 9
section_number Section.Classes = 10
section_number Section.Hints = 11
section_number Section.Magic = 12

-- the line begins with the number; what follows it is ignored
abbrev pub IsLineOfNumber : Number → List ℕ → Type 0
IsLineOfNumber number line = (ignored : List ℕ) × BeginsWithNumber line number ignored

-- From this position on the lines are those of a database, and these are its rows. Outside every
-- section the number of a section opens it; inside it each line is one of its rows, up to a line
-- that begins with -1. A 0 outside is the end, after which anything may follow.
pub data HasRows : Position → List (List ℕ) → List Entry → Type 0 where
  blank_line : {position : Position} {line : List ℕ} {lines : List (List ℕ)} {rows : List Entry}
      → IsTrue (is_all_blank line) → HasRows position lines rows
      → HasRows position (line ∷ lines) rows
  section_opens : {s : Section} {line : List ℕ} {lines : List (List ℕ)} {rows : List Entry}
      → IsLineOfNumber (Natural (section_number s)) line → HasRows (Inside s) lines rows
      → HasRows Outside (line ∷ lines) rows
  row_line : {s : Section} {line : List ℕ} {row : Entry} {lines : List (List ℕ)}
      {rows : List Entry}
      → IsRow s line row → HasRows (Inside s) lines rows
      → HasRows (Inside s) (line ∷ lines) (row ∷ rows)
  section_ends : {s : Section} {line : List ℕ} {lines : List (List ℕ)} {rows : List Entry}
      → IsLineOfNumber (Negative 1) line → HasRows Outside lines rows
      → HasRows (Inside s) (line ∷ lines) rows
  database_ends : {line : List ℕ} {lines : List (List ℕ)}
      → IsLineOfNumber (Natural 0) line → HasRows Outside (line ∷ lines) []
