use Rattle.play_cover.specs.Texts.{said_by_part}
use Rattle.check_tables.proofs.Noting.{Notes-all, Notes-more}
use Rattle.play_cover.proofs.parts.note_parts.Goals as goal

pub loop-part-preserved : goal.loop-part-preserved
loop-part-preserved c =
    Notes-more (said_by_part c.args.cave.now) c.args.parts.now c.loop-part.part-index
    c.part-item.result
    _ _ _ c.loop-part-test.true c.part-item.is c.loop-part.invariant c.in_ok-note_part.ensures

pub returns : goal.returns
returns c =
    Notes-all (said_by_part c.args.cave.now) c.args.parts.now c.loop-part.part-index
    _ _ c.loop-part-test.false c.loop-part.invariant
