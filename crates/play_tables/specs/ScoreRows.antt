-- The rows of the score of a state: what counts, and what costs.
use Rattle.std.specs.Prelude.{◌≡◌, ℕ, ℤ, pos, ◌+ℤ◌, neg_ℤ, if◌then◌else◌, Bool, is_some, List}
use Rattle.std.specs.Prelude.{[], ◌∷◌, ◌++◌, codes, map, drop, unwrap_or}
use Rattle.std.specs.Fmt.{decimal}
use Rattle.std.specs.Int.{int_max}
use Rattle.std.specs.List.{filter, range_with_len, zip}
use Rattle.std.specs.FinMap as table
use Rattle.base_lines.specs.Line.{first_line}
use Rattle.cave_data.specs.CaveView.{CaveView, name_of}
use Rattle.base_lines.specs.Numbers.{LAST_HINT}
use Rattle.cave_world.specs.State.{is_hint_taken}
use Rattle.cave_world.specs.declared.state.State.{State}
use Rattle.turn_scene.specs.Treasures.{known_treasures}
use Rattle.turn_ends.specs.Score.{ScoreRow, points_by, most_by, treasure_rows, score_rows, price_of}
use Rattle.turn_ends.specs.Score.{score_of}
use Rattle.play_tables.specs.Columns.{without_tabs}

-- a row: its name, what its parts count if it has two, what it counts, and the most that it can
-- count
pub record TableRow : Type 0 where
  pub name : List ℕ
  pub parts : List (List ℕ)
  pub points : ℤ
  pub most : ℤ

-- ---- names

-- something by its kind, its number, and the first line of its text
unfoldable pub named_text : List ℕ → ℕ → List ℕ → List ℕ
named_text kind number text =
    kind ++ (decimal number ++ (codes ": " ++ without_tabs (first_line text)))

-- the names of the rows of the score, after those of the treasures
abbrev pub row_names : List (List ℕ)
row_names =
    codes "lives" ∷ codes "ending" ∷ codes "dwarves" ∷ codes "closing" ∷ codes "closed"
    ∷ codes "magazine" ∷ codes "playing" ∷ []

-- ---- rows

-- a treasure, whose two parts are that it was found and that it is at home
abbrev pub treasure_row : CaveView → State → ℕ → TableRow
treasure_row cave s x = record {
  name = named_text (codes "treasure ") x (unwrap_or (name_of cave x) []);
  parts = map (λ row. decimal (row.points s)) (treasure_rows cave x);
  points = pos (points_by (treasure_rows cave x) s);
  most = pos (most_by (treasure_rows cave x));
}

abbrev pub no_parts : List (List ℕ)
no_parts = codes "-" ∷ codes "-" ∷ []

-- another row of the score
abbrev pub other_row : State → (List ℕ × ScoreRow) → TableRow
other_row s (name, row) = record {
  name = name;
  parts = no_parts;
  points = pos (row.points s);
  most = pos row.most;
}

-- what a hint costs if it was taken
abbrev pub hint_cost : CaveView → State → ℕ → ℕ
hint_cost cave s hint = if is_hint_taken s hint then price_of cave hint else 0

abbrev pub hint_score_row : CaveView → State → ℕ → TableRow
hint_score_row cave s hint = record {
  name = codes "hint " ++ decimal hint;
  parts = no_parts;
  points = neg_ℤ (pos (hint_cost cave s hint));
  most = neg_ℤ (pos (price_of cave hint));
}

-- ---- all rows

abbrev pub cave_has_hint : CaveView → ℕ → Bool
cave_has_hint cave hint = is_some (table.get cave.hints hint)

-- the hints that the cave has
unfoldable pub hints_in : CaveView → List ℕ
hints_in cave = filter (cave_has_hint cave) (range_with_len 1 LAST_HINT)

abbrev pub treasure_rows_of : CaveView → State → List TableRow
treasure_rows_of cave s = map (treasure_row cave s) (known_treasures cave)

abbrev pub other_rows_of : CaveView → State → List TableRow
other_rows_of cave s = map (other_row s) (zip row_names (drop 1 (score_rows cave)))

abbrev pub hint_rows_of : CaveView → State → List TableRow
hint_rows_of cave s = map (hint_score_row cave s) (hints_in cave)

-- the treasures that the cave knows, the other rows of the score, and the hints of the cave
unfoldable pub table_rows : CaveView → State → List TableRow
table_rows cave s = treasure_rows_of cave s ++ (other_rows_of cave s ++ hint_rows_of cave s)

-- what rows count together
abbrev pub sum_of : List TableRow → ℤ
sum_of [] = pos 0
sum_of (row ∷ rows) = row.points +ℤ sum_of rows

-- the rows add up to the score, which isn't below 0
abbrev pub AddUp : CaveView → State → Type 0
AddUp cave s = pos (score_of cave s) ≡ int_max (sum_of (table_rows cave s)) (pos 0)
