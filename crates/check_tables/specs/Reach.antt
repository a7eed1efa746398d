-- Which ways of a place a journey by a motion can reach.
use Rattle.std.specs.Prelude.{ℕ, Bool, true, false, ◌==◌, ◌&&◌, ◌||◌, not, List, [], ◌∷◌, ◌++◌}
use Rattle.std.specs.Prelude.{Option, Some, None, if◌then◌else◌}
use Rattle.std.specs.List.{filter, list_any}
use Rattle.data_rows.specs.Rows.{Going}
use Rattle.data_rows.specs.declared.targets.Condition.{Condition}
use Rattle.data_rows.specs.declared.targets.Destination.{Destination}
use Rattle.cave_world.specs.Travel.{lists_motion, row_condition, row_destination}

-- the motions of a way that begin with it, since no way before it lists them, and the others
unfoldable pub motions_begun : List Going → Going → List ℕ
motions_begun before way = filter (λ motion. not (list_any (lists_motion motion) before)) way.motions

unfoldable pub motions_again : List Going → Going → List ℕ
motions_again before way = filter (λ motion. list_any (lists_motion motion) before) way.motions

-- a motion begins with the way
abbrev pub begins_journey : List Going → Going → Bool
begins_journey before way =
    list_any (λ motion. not (list_any (lists_motion motion) before)) way.motions

abbrev pub is_certain : Condition → Bool
is_certain Condition.Always = true
is_certain Condition.NotForDwarves = true
is_certain _ = false

abbrev pub ends_there : Destination → Bool
ends_there Destination.PutsEmeraldDown = false
ends_there _ = true

-- a journey that reaches the way ends with it, in each state and with each draw
abbrev pub ends_journey : Going → Bool
ends_journey way = is_certain (row_condition way) && ends_there (row_destination way)

abbrev pub is_other : ℕ → Option ℕ → Bool
is_other target None = false
is_other target (Some failed) = not (failed == target)

-- A journey reaches a way if a motion begins with it, or if one fails before it, at a way with
-- another target.
abbrev pub comes_to : List Going → Option ℕ → Going → Bool
comes_to before failed way = begins_journey before way || is_other way.target failed

-- the target at which a journey that goes on after the way may have failed; a way with that target
-- is passed over
abbrev pub failed_after : List Going → Option ℕ → Going → Option ℕ
failed_after before failed way =
    if comes_to before failed way
    then (if ends_journey way then None else Some way.target) else failed

abbrev pub failed_from : List Going → Option ℕ → List Going → Option ℕ
failed_from before failed [] = failed
failed_from before failed (way ∷ ways) =
    failed_from (before ++ way ∷ []) (failed_after before failed way) ways

-- some journey reaches the way since it fails at one of these ways before it
abbrev pub goes_on_to : List Going → Going → Bool
goes_on_to before way = is_other way.target (failed_from [] None before)

-- some motion leads a player to the way that comes after these ways of its place
abbrev pub may_be_taken : List Going → Going → Bool
may_be_taken before way = comes_to before (failed_from [] None before) way
