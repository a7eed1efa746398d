-- The score of a state as a table.
use Rattle.std.specs.Prelude.{ℕ, ◌+◌, ◌-◌, pos, if◌then◌else◌, List, ◌++◌, codes, Option, Some}
use Rattle.std.specs.Prelude.{None}
use Rattle.std.specs.Fmt.{decimal, signed_decimal}
use Rattle.std.specs.List.{flat_map}
use Rattle.cave_data.specs.CaveView.{CaveView, Rated, class_of}
use Rattle.cave_world.specs.declared.state.State.{State}
use Rattle.turn_ends.specs.Score.{score_of, max_score_of}
use Rattle.play_tables.specs.ScoreRows.{TableRow, table_rows, named_text, no_parts}

-- the names of the columns
unfoldable pub score_head_row : List ℕ
score_head_row = codes "what\tfound\thome\tpoints\tof\n"

-- a row has a tab between its columns
abbrev pub row_text : TableRow → List ℕ
row_text row =
    row.name ++ (flat_map (λ part. codes "\t" ++ part) row.parts ++ (codes "\t"
    ++ (signed_decimal row.points ++ (codes "\t" ++ (signed_decimal row.most ++ codes "\n")))))

-- a row without parts
unfoldable pub other_text : List ℕ → ℕ → ℕ → List ℕ
other_text name points most = row_text (record {
  name = name;
  parts = no_parts;
  points = pos points;
  most = pos most;
})

-- the score, out of the greatest one
abbrev pub score_row_text : ℕ → ℕ → List ℕ
score_row_text score most = other_text (codes "score") score most

-- a class by its greatest score and its text
abbrev pub class_name : Option Rated → List ℕ
class_name None = codes "no class"
class_name (Some rated) = named_text (codes "class ") rated.bound rated.text

unfoldable pub class_line : Option Rated → List ℕ
class_line class = class_name class ++ codes "\t-\t-\t-\t-\n"

-- the points that are missing for the next class, if there is one
abbrev pub points_wanted : ℕ → Option Rated → Option ℕ
points_wanted score None = None
points_wanted score (Some rated) =
    if rated.is_followed then Some (rated.bound + 1 - score) else None

-- the row of the next class, for which this many points are missing
unfoldable pub next_class_text : Option ℕ → List ℕ
next_class_text None = codes "next class\t-\t-\t-\t-\n"
next_class_text (Some wanted) = codes "next class\t-\t-\t" ++ (decimal wanted ++ codes "\t-\n")

-- the score, its class, and what is missing for the next one
unfoldable pub end_text : CaveView → ℕ → List ℕ
end_text cave score =
    score_row_text score (max_score_of cave)
    ++ (class_line (class_of cave score)
    ++ next_class_text (points_wanted score (class_of cave score)))

-- the names of the columns, the rows, and what they add up to
unfoldable pub score_table : CaveView → State → List ℕ
score_table cave s =
    score_head_row ++ (flat_map row_text (table_rows cave s) ++ end_text cave (score_of cave s))
