-- The rows of what counts apart from treasures, one after another.
use Rattle.std.proofs.Common.{◌≡◌, ◌++◌, [], codes, refl}
use Rattle.std.specs.List.{flat_map}
use Rattle.cave_data.specs.CaveView.{CaveView}
use Rattle.cave_world.specs.declared.state.State.{State}
use Rattle.turn_ends.specs.Score.{score_row, life_points, has_other_end, has_dwarves_up, is_closing}
use Rattle.turn_ends.specs.Score.{closed_points, has_magazine_there, score_rows}
use Rattle.play_tables.specs.ScoreRows.{other_rows_of}
use Rattle.play_tables.specs.ScoreTable.{row_text, other_text}

pub other_rows_shown : (cave : CaveView) (s : State)
    → flat_map row_text (other_rows_of cave s)
    ≡ other_text (codes "lives") (life_points s) 30
    ++ (other_text (codes "ending") ((score_row 4 has_other_end).points s) 4
    ++ (other_text (codes "dwarves") ((score_row 25 has_dwarves_up).points s) 25
    ++ (other_text (codes "closing") ((score_row 25 is_closing).points s) 25
    ++ (other_text (codes "closed") (closed_points s) 45
    ++ (other_text (codes "magazine") ((score_row 1 (has_magazine_there cave)).points s) 1
    ++ (other_text (codes "playing") 2 2 ++ []))))))
unfolding score_rows other_text
other_rows_shown cave s = refl
