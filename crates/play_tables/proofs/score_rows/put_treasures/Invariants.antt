use Rattle.std.specs.List.{flat_map}
use Rattle.base_text.specs.Text.{TellsUpTo}
use Rattle.turn_scene.specs.Scene.{cave_of}
use Rattle.play_tables.specs.ScoreRows.{treasure_rows_of}
use Rattle.play_tables.specs.ScoreTable.{row_text}
use Rattle.play_tables.proofs.ScoreWalking.{treasures_from}
use Rattle.play_tables.proofs.score_rows.put_treasures.Given as goal

-- what was written so far, with the remaining rows, is all rows
abbrev pub invariant-loop-number : goal.invariant-loop-number
invariant-loop-number l =
    TellsUpTo (treasures_from (cave_of l.rules) l.state l.number)
    (flat_map row_text (treasure_rows_of (cave_of l.rules) l.state)) l.initial.text l.text
