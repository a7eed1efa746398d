use Rattle.std.proofs.Common.{map, take}
use Rattle.check_tables.specs.Marks.{Notes}
use Rattle.play_cover.specs.RowMarks.{mark_of_row}
use Rattle.play_cover.proofs.rule_notes.note_rows.Given as goal

abbrev pub invariant-loop-row : goal.invariant-loop-row
invariant-loop-row l =
    Notes (map mark_of_row (take l.row-index l.rows)) l.fn.marks l.marks
