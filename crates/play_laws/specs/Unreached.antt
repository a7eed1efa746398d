-- A class that doubts call unreached is the class of no score up to the greatest.
use Rattle.std.specs.Prelude.{◌≡◌, ◌≤◌, ℕ, ◌+◌, List, ◌∷◌, ◌++◌, length, Option, Some, None}
use Rattle.std.specs.List.{filter_map}
use Rattle.std.specs.Str.Lines.{lines}
use Rattle.cave_data.specs.CaveView.{CaveView, Rated, class_of}
use Rattle.cave_data.specs.Reads.{Reads}
use Rattle.data_rows.specs.declared.position.Position.TheVariants.{Outside}
use Rattle.data_lines.specs.Marks.{marked_rows}
use Rattle.data_lines.specs.declared.mark.MarkedRow.{MarkedRow}
use Rattle.data_lines.specs.declared.mark.RowMark.{RowMark}
use Rattle.turn_ends.specs.Score.{max_score_of}
use Rattle.check_doubts.specs.Classes.{class_flaw}
use Rattle.check_doubts.specs.declared.flaw.CaveFlaw.TheVariants.{UnscoredClass}

-- the bound of a class
abbrev pub bound_of : RowMark → Option ℕ
bound_of (RowMark.Class bound) = Some bound
bound_of _ = None

-- the bounds of the classes among rows
abbrev pub bounds : List MarkedRow → List ℕ
bounds rows = filter_map (λ row. bound_of row.mark) rows

-- the number, from 1, of the class that comes after these rows
abbrev pub class_number : List MarkedRow → ℕ
class_number before = length (bounds before) + 1

-- a row of a database, after these rows and before those
abbrev pub IsRowBetween : List ℕ → List MarkedRow → MarkedRow → List MarkedRow → Type 0
IsRowBetween database before row later =
    before ++ row ∷ later ≡ marked_rows 1 Outside (lines database)

-- in a cave that was read, no score up to the greatest has a class that doubts call unreached, by
-- the row of the class
abbrev pub UnreachedIsOfNoScore : Type 0
UnreachedIsOfNoScore = (database bindings : List ℕ) (cave : CaveView)
    → Reads database bindings cave → (before later : List MarkedRow) (row : MarkedRow) (bound : ℕ)
    → IsRowBetween database before row later → row.mark ≡ RowMark.Class bound
    → class_flaw cave bound before ≡ Some UnscoredClass
    → (score : ℕ) → score ≤ max_score_of cave → (rated : Rated)
    → class_of cave score ≡ Some rated → ¬ (rated.row ≡ class_number before)
