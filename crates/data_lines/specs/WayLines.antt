-- The lines of a database that are ways out of places.
use Rattle.std.specs.Prelude.{◌≡◌, ◌≢◌, ℕ, ◌+◌, List, [], ◌∷◌, ◌++◌, length, slice_index_or}
use Rattle.std.specs.List.{filter}
use Rattle.std.specs.Str.Lines.{lines}
use Rattle.data_rows.specs.declared.position.Position.TheVariants.{Outside}
use Rattle.data_lines.specs.Marks.{is_way_from, marked_rows}
use Rattle.data_lines.specs.declared.mark.RowMark.{RowMark}
use Rattle.data_lines.specs.declared.mark.MarkedRow.{MarkedRow}
use Rattle.data_lines.specs.declared.by_line.WayLine.{WayLine}

-- which of its place's ways a row is, counted from 0, by the rows before it
abbrev pub way_index : ℕ → List MarkedRow → ℕ
way_index place before = length (filter (is_way_from place) before)

-- ---- how many ways of each place there have been so far

-- in a table of counts by the numbers of places, the count of a place
abbrev pub count_of : List ℕ → ℕ → ℕ
count_of counts place = slice_index_or counts place 0

-- one more way of the place is counted
pub record CountsOne (place : ℕ) (old new : List ℕ) : Type 0 where
  pub here : count_of new place ≡ count_of old place + 1
  pub others : (other : ℕ) → other ≢ place → count_of new other ≡ count_of old other

-- the table counts the ways of each place among these rows
abbrev pub AreCounts : List MarkedRow → List ℕ → Type 0
AreCounts before counts = (place : ℕ) → count_of counts place ≡ way_index place before

-- ---- the lines

abbrev pub way_line : List MarkedRow → ℕ → RowMark → List WayLine
way_line before line (RowMark.Way place) =
    record { line = line; place = place; index = way_index place before } ∷ []
way_line before line _ = []

-- the row, if it is a way, after the rows before it
abbrev pub way_lines_at : List MarkedRow → MarkedRow → List WayLine
way_lines_at before row = way_line before row.line row.mark

abbrev pub way_lines_from : List MarkedRow → List MarkedRow → List WayLine
way_lines_from before [] = []
way_lines_from before (row ∷ rows) =
    way_lines_at before row ++ way_lines_from (before ++ row ∷ []) rows

-- the ways of a database, in the order of its lines
unfoldable pub way_lines : List ℕ → List WayLine
way_lines database = way_lines_from [] (marked_rows 1 Outside (lines database))
