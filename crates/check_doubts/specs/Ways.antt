-- Ways that no player can take, since an earlier one is always taken, and ways that lead to
-- nothing.
use Rattle.std.specs.Prelude.{ℕ, Bool, false, ◌&&◌, not, nat_lt, List, ◌%◌, take, Option, Some, None}
use Rattle.std.specs.Prelude.{if◌then◌else◌}
use Rattle.std.specs.List.{slice_get}
use Rattle.cave_data.specs.CaveView.{CaveView, ways_from}
use Rattle.data_rows.specs.Rows.{Going}
use Rattle.data_rows.specs.declared.targets.Destination.{Destination}
use Rattle.cave_world.specs.Travel.{row_destination}
use Rattle.check_tables.specs.Reach.{may_be_taken}
use Rattle.data_lines.specs.WayLines.{way_index}
use Rattle.check_doubts.specs.Messages.{lacks_text, place_has_text}
use Rattle.check_doubts.specs.declared.flaw.CaveFlaw.{CaveFlaw}
use Rattle.check_doubts.specs.declared.flaw.Subject.TheVariants as subject
use Rattle.data_lines.specs.declared.mark.MarkedRow.{MarkedRow}

abbrev pub is_never_taken_after : List Going → Option Going → Bool
is_never_taken_after before None = false
is_never_taken_after before (Some way) = not (may_be_taken before way)

-- the way of a place at an index is never taken
abbrev pub is_never_taken_at : ℕ → List Going → Bool
is_never_taken_at index ways = is_never_taken_after (take index ways) (slice_get ways index)

abbrev pub is_textless_end : CaveView → ℕ → Bool
is_textless_end cave place = nat_lt 0 place && not (place_has_text cave place)

-- a way leads to a place without a text, says a message without one, or has a special number for
-- which there is no rule
abbrev pub end_flaw : CaveView → ℕ → Destination → Option CaveFlaw
end_flaw cave target (Destination.Place place) =
    if is_textless_end cave place then Some (CaveFlaw.Textless subject.WayTo place) else None
end_flaw cave target (Destination.Message message) =
    if lacks_text cave message then Some (CaveFlaw.Textless subject.WaySays message) else None
end_flaw cave target Destination.NoWay = Some (CaveFlaw.HasNoRule (target % 1000))
end_flaw cave target _ = None

abbrev pub way_flaw : CaveView → Option Going → Option CaveFlaw
way_flaw cave None = None
way_flaw cave (Some way) = end_flaw cave way.target (row_destination way)

module _ (cave : CaveView) (place : ℕ) (before : List MarkedRow) where
  abbrev pub way_of_row : Option Going
  way_of_row = slice_get (ways_from cave place) (way_index place before)

  abbrev pub is_never_taken : Bool
  is_never_taken = is_never_taken_at (way_index place before) (ways_from cave place)
