use Rattle.std.specs.List.{flat_map}
use Rattle.base_text.specs.Text.{TellsUpTo}
use Rattle.play_tables.specs.ScoreRows.{hint_rows_of}
use Rattle.play_tables.specs.ScoreTable.{row_text}
use Rattle.play_tables.proofs.ScoreWalking.{hints_from}
use Rattle.play_tables.proofs.score_rows.put_hints.Given as goal

-- what was written so far, with the remaining rows, is all rows
abbrev pub invariant-loop-number : goal.invariant-loop-number
invariant-loop-number l =
    TellsUpTo (hints_from l.cave l.state l.number)
    (flat_map row_text (hint_rows_of l.cave l.state)) l.initial.text l.text
