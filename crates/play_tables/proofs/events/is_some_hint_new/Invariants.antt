use Rattle.std.proofs.Common.{◌≡◌}
use Rattle.std.specs.List.{list_any, range_with_len}
use Rattle.play_tables.specs.Events.{is_hint_new}
use Rattle.play_tables.proofs.Walking.{hints_left}
use Rattle.play_tables.proofs.events.is_some_hint_new.Given as goal

-- it holds of none before this one
abbrev pub invariant-loop-hint : goal.invariant-loop-hint
invariant-loop-hint l =
    list_any (is_hint_new l.before l.after) (hints_left l.hint)
    ≡ list_any (is_hint_new l.before l.after) (range_with_len 1 20)
