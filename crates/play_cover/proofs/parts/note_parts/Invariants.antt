use Rattle.std.proofs.Common.{take}
use Rattle.check_tables.specs.Marks.{Notes}
use Rattle.play_cover.specs.Texts.{said_by_all}
use Rattle.play_cover.proofs.parts.note_parts.Given as goal

abbrev pub invariant-loop-part : goal.invariant-loop-part
invariant-loop-part l = Notes (said_by_all l.cave (take l.part-index l.parts)) l.fn.said l.said
