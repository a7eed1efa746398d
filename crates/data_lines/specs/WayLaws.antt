-- The lines with which ways are listed are those on which they stand, and each way has one.
use Rattle.std.specs.Prelude.{◌≡◌, ◌<◌, ℕ, ◌+◌, List, Some, Contains, length, slice_get}
use Rattle.std.specs.List.{All}
use Rattle.std.specs.Str.Lines.{lines}
use Rattle.cave_data.specs.CaveView.{CaveView, ways_from}
use Rattle.cave_data.specs.Reads.{Reads}
use Rattle.data_rows.specs.RowGrammar.{IsRow}
use Rattle.data_rows.specs.Rows.{Going, Way}
use Rattle.data_rows.specs.declared.error.Section.TheVariants as section
use Rattle.data_lines.specs.WayLines.{way_lines}
use Rattle.data_lines.specs.declared.by_line.WayLine.{WayLine}

-- The line with this number, from 1, is a row of travel by the grammar, and of the ways out of its
-- place the one with this index is its own.
pub record StandsOn (ls : List (List ℕ)) (ways : ℕ → List Going) (way : WayLine) : Type 0 where
  pub before : ℕ
  pub counted : way.line ≡ before + 1
  pub line : List ℕ
  pub there : slice_get ls before ≡ Some line
  pub going : Going
  pub is_row : IsRow section.Travel line (Way way.place going)
  pub is_way : slice_get (ways way.place) way.index ≡ Some going

-- the way of the place with this index is listed, with a line
pub record HasALine (listed : List WayLine) (place index : ℕ) : Type 0 where
  pub line : ℕ
  pub is_listed : Contains listed (record { line = line; place = place; index = index })

-- each way that is listed stands on its line, and each way of a place is listed
pub record StandOnTheirLines (ls : List (List ℕ)) (ways : ℕ → List Going)
    (listed : List WayLine) : Type 0 where
  pub each_line : All (StandsOn ls ways) listed
  pub each_way : (place index : ℕ) → index < length (ways place) → HasALine listed place index

-- this is so of the ways of the cave that a database makes
abbrev pub WaysStandOnTheirLines : Type 0
WaysStandOnTheirLines = (database bindings : List ℕ) (c : CaveView) → Reads database bindings c
    → StandOnTheirLines (lines database) (ways_from c) (way_lines database)
