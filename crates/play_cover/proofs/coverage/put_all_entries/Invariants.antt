use Rattle.std.proofs.Common.{[], take}
use Rattle.std.specs.List.{flat_map}
use Rattle.base_text.specs.Text.{Tells}
use Rattle.check_tables.specs.Known.{entry_lines}
use Rattle.play_cover.specs.Coverage.{missing}
use Rattle.check_tables.specs.Marks.{is_marked}
use Rattle.play_cover.proofs.coverage.put_all_entries.Given as goal

abbrev pub invariant-loop-group : goal.invariant-loop-group
invariant-loop-group g l =
    let of = g.T.Groups.catalogue l.of in
    Tells (flat_map (λ group. entry_lines (of.words group) [] (missing of (is_marked l.marks) group))
    (take l.group-index of.groups)) l.initial.text l.text
