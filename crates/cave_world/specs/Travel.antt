-- When a row of a place holds, which rows a motion tries, and which one it takes.
use Rattle.std.specs.Prelude.{ℕ, ◌+◌, pos, Bool, true, false, ◌==◌, ◌||◌, not, List, []}
use Rattle.std.specs.Prelude.{◌∷◌, if◌then◌else◌, map, Option, None, Some, is_some, unwrap_or}
use Rattle.std.specs.Ordering.{int_eq}
use Rattle.std.specs.List.{list_any}
use Rattle.data_rows.specs.Rows.{Going}
use Rattle.data_rows.specs.Targets.{condition_of, destination_of}
use Rattle.data_rows.specs.declared.targets.Condition.{Condition}
use Rattle.data_rows.specs.declared.targets.Destination.{Destination}
use Rattle.cave_data.specs.CaveView.{CaveView, ways_from}
use Rattle.cave_words.specs.Stream.{next, pct}
use Rattle.cave_world.specs.Motions.{any_motion}
use Rattle.cave_world.specs.declared.state.State.{State}
use Rattle.cave_world.specs.declared.travel_rows.Outcome.{Outcome}
use Rattle.cave_world.specs.declared.travel_rows.Outcome.TheVariants.{Go, Special, Say, NoMotion}
use Rattle.cave_world.specs.declared.travel_rows.Outcome.TheVariants.{NoWay}
use Rattle.cave_world.specs.declared.tables.RuleRow.{RuleRow}
use Rattle.cave_world.specs.declared.tables.RuleRow.TheVariants.{OfPlace}
use Rattle.world_objects.specs.Objects.{is_in_hands, is_object_at, prop_of, after_move_to}

-- a state, and where a motion leads
pub record TravelResult : Type 0 where
  pub state : State
  pub outcome : Outcome

-- a row lists a motion by its number, or each motion by 1
abbrev pub lists_motion : ℕ → Going → Bool
lists_motion motion row = list_any (λ m. m == motion || m == any_motion) row.motions

abbrev pub row_condition : Going → Condition
row_condition row = condition_of row.target

abbrev pub row_destination : Going → Destination
row_destination row = destination_of row.target

-- a condition holds always, by chance, or by where objects are and what props they have
abbrev pub holds : Condition → State → Bool
holds Condition.Always s = true
holds Condition.NotForDwarves s = true
holds (Condition.Chance percent) s = pct percent s.stream
holds (Condition.InHands object) s = is_in_hands s.objects object
holds (Condition.AtHand object) s =
    is_in_hands s.objects object || is_object_at s.objects s.trail.here object
holds (Condition.OtherProp object prop) s = not (int_eq (prop_of s.objects object) (pos prop))

-- a condition by chance takes a draw, and any other leaves the state as it is
abbrev pub after_condition : Condition → State → State
after_condition (Condition.Chance percent) s = record s { stream = next s.stream }
after_condition _ s = s

-- where a destination leads: nowhere if only the emerald is put down
abbrev pub outcome_at : Destination → Option Outcome
outcome_at (Destination.Place place) = Some (Go place)
outcome_at (Destination.Special special) = Some (Special special)
outcome_at Destination.PutsEmeraldDown = None
outcome_at Destination.NoWay = Some NoWay
outcome_at (Destination.Message message) = Some (Say message)

-- the state on the way there
abbrev pub after_go : ℕ → Destination → State → State
after_go emerald Destination.PutsEmeraldDown s =
    record s { objects = after_move_to s.objects emerald s.trail.here }
after_go emerald _ s = s

unfoldable pub row_outcome : State → Going → Option Outcome
row_outcome s row =
    if holds (row_condition row) s then outcome_at (row_destination row) else None

-- the state after a row was tried
unfoldable pub after_trying_row : ℕ → State → Going → State
after_trying_row emerald s row =
    let t = after_condition (row_condition row) s in
    if holds (row_condition row) s then after_go emerald (row_destination row) t else t

-- the rows from the first that lists the motion
abbrev pub from_listed : ℕ → List Going → List Going
from_listed motion [] = []
from_listed motion (row ∷ rows) = if lists_motion motion row then row ∷ rows
    else from_listed motion rows

-- how many rows stand before the first that lists the motion
abbrev pub count_unlisted : ℕ → List Going → ℕ
count_unlisted motion [] = 0
count_unlisted motion (row ∷ rows) =
    if lists_motion motion row then 0 else count_unlisted motion rows + 1

-- one try: a row of the player's place by its number and whether its condition holds, where it
-- leads unless it fails, and the state after it
pub record Try : Type 0 where
  pub row : RuleRow
  pub leads : Option Outcome
  pub after : State

abbrev pub try_of : ℕ → State → ℕ → Going → Try
try_of emerald s number row = record {
  row = OfPlace s.trail.here number (holds (row_condition row) s);
  leads = row_outcome s row;
  after = after_trying_row emerald s row;
}

-- the row has the same target as the row before it, which failed
abbrev pub is_passed : Option ℕ → Going → Bool
is_passed None row = false
is_passed (Some target) row = row.target == target

-- the tries of rows in order, from a number on, up to the first that leads somewhere; one that
-- fails passes all that follow it, up to one with another target
abbrev pub tries : ℕ → State → Option ℕ → ℕ → List Going → List Try
tries emerald s failed number [] = []
tries emerald s failed number (row ∷ rows) =
    if is_passed failed row then tries emerald s failed (number + 1) rows
    else try_of emerald s number row
    ∷ (if is_some (row_outcome s row) then []
    else tries emerald (after_trying_row emerald s row) (Some row.target) (number + 1) rows)

-- the tries of a motion, from the first row of a place that lists it
abbrev pub tries_by_rows : ℕ → ℕ → State → List Going → List Try
tries_by_rows emerald motion s ways =
    tries emerald s None (count_unlisted motion ways) (from_listed motion ways)

-- where a try leads; one that fails leads nowhere
abbrev pub result_of : Try → TravelResult
result_of t = record { state = t.after; outcome = unwrap_or t.leads NoWay }

-- where the last try leads, after one that led as given
abbrev pub result_of_last : TravelResult → List Try → TravelResult
result_of_last before [] = before
result_of_last before (t ∷ later) = result_of_last (result_of t) later

-- where a motion leads by the rows of a place: where its last try does
unfoldable pub travel_by_rows : ℕ → ℕ → State → List Going → TravelResult
travel_by_rows emerald motion s ways =
    result_of_last (record { state = s; outcome = NoMotion }) (tries_by_rows emerald motion s ways)

-- those rows of a place that a motion tries
unfoldable pub rows_tried_by : ℕ → ℕ → State → List Going → List RuleRow
rows_tried_by emerald motion s ways = map (λ t. t.row) (tries_by_rows emerald motion s ways)

-- the rows that a motion tries where the player is, in order, each with whether it applied
unfoldable pub rows_tried_from : CaveView → ℕ → ℕ → State → List RuleRow
rows_tried_from cave emerald motion s =
    rows_tried_by emerald motion s (ways_from cave s.trail.here)

-- where a motion leads from where the player is
unfoldable pub travel : CaveView → ℕ → ℕ → State → TravelResult
travel cave emerald motion s =
    travel_by_rows emerald motion s (ways_from cave s.trail.here)
