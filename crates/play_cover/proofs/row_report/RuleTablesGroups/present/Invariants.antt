use Rattle.std.proofs.Common.{◌≡◌, length}
use Rattle.std.specs.List.{range_with_len}
use Rattle.play_cover.proofs.row_report.RuleTablesGroups.present.Given as goal

abbrev pub invariant-loop-before : goal.invariant-loop-before
invariant-loop-before l =
    (l.numbers.items ≡ range_with_len 1 l.before) × (length l.numbers.items ≡ l.before)
