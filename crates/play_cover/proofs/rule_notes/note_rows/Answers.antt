use Rattle.std.proofs.Common.{[], ◌∷◌, subst}
use Rattle.check_tables.specs.Marks.{Notes}
use Rattle.check_tables.proofs.Noting.{map-all, map-more}
use Rattle.play_cover.specs.RowMarks.{mark_of_row}
use Rattle.play_cover.proofs.rule_notes.note_rows.Goals as goal

pub loop-row-preserved : goal.loop-row-preserved
loop-row-preserved c =
    map-more mark_of_row c.args.rows.now c.loop-row.row-index _ c.args.marks.now c.loop-row.marks _
    c.loop-row-test.true c.loop-row.invariant
    (subst (λ mark. Notes (mark ∷ []) c.loop-row.marks c.note.new.self) c.row_mark.ensures
    c.in_ok-note.ensures)

pub returns : goal.returns
returns c =
    map-all mark_of_row c.args.rows.now c.loop-row.row-index _ _ c.loop-row-test.false
    c.loop-row.invariant
