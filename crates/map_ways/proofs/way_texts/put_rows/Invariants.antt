use Rattle.std.proofs.Common.{[], drop, map, take}
use Rattle.base_text.specs.Text.{TellsUpTo}
use Rattle.data_rows.specs.RowViews.{going}
use Rattle.map_ways.specs.WayTexts.{row_lines}
use Rattle.map_ways.proofs.way_texts.put_rows.Given as goal

-- what was written, with the lines of the remaining rows, is the whole
abbrev pub invariant-loop-count : goal.invariant-loop-count
invariant-loop-count l =
    TellsUpTo (row_lines l.cave l.prefix l.ends.0 l.ends.1 (map going (take l.count l.rows)) (map
    going (drop l.count l.rows))) (row_lines l.cave l.prefix l.ends.0 l.ends.1 [] (map going
    l.rows)) l.initial.text l.text
