use Rattle.std.proofs.Common.{take}
use Rattle.std.specs.List.{flat_map}
use Rattle.base_text.specs.Text.{Tells}
use Rattle.check_tables.specs.Marks.{is_marked}
use Rattle.play_cover.specs.TravelRows.{way_line}
use Rattle.play_cover.proofs.travel_report.put_way_lines.Given as goal

abbrev pub invariant-loop-way : goal.invariant-loop-way
invariant-loop-way l =
    Tells (flat_map (way_line (is_marked l.noted) l.cave) (take l.way-index l.ways))
    l.initial.text l.text
