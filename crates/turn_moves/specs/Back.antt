-- The way back.
use Rattle.std.specs.Prelude.{ℕ, Bool, false, ◌&&◌, if◌then◌else◌, List, [], ◌∷◌, Option, Some}
use Rattle.std.specs.Prelude.{None, option_map, is_some, slice_index}
use Rattle.std.specs.List.{find}
use Rattle.std.specs.Option.{option_or}
use Rattle.data_rows.specs.Rows.{Going}
use Rattle.data_rows.specs.Targets.{leads_to_place}
use Rattle.data_rows.specs.declared.role.Role.TheVariants as role
use Rattle.data_rows.specs.declared.targets.Destination.{Destination}
use Rattle.data_rows.specs.declared.targets.Destination.TheVariants.{Place}
use Rattle.cave_data.specs.CaveView.{CaveView, ways_from}
use Rattle.cave_world.specs.Sight.{forced}
use Rattle.cave_world.specs.Travel.{row_destination}
use Rattle.cave_world.specs.declared.tables.Table.TheVariants as table
use Rattle.turn_scene.specs.Rows.{Deed, Act, Test, Row, deed, row_then, answer_row, otherwise_row}
use Rattle.turn_scene.specs.Rows.{otherwise_then, act_by_table, always, first_fitting_or}
use Rattle.turn_scene.specs.Rows.{nothing_but, noted}
use Rattle.turn_scene.specs.Tests.{same, here, old, older, forced_at}
use Rattle.turn_scene.specs.Effects.{say, set_out}

-- where a player who goes back wants to go: where the player came from, or, if that was a place of
-- forced motion, where the player was before that
abbrev pub place_back_rows : List (Row (Unit {0}) ℕ)
place_back_rows = answer_row (forced_at old ∷ []) older ∷ []

unfoldable pub place_back : Deed (Unit {0}) → Act ℕ
place_back d = act_by_table table.BackFrom place_back_rows
    (otherwise_row [] old) d

-- the row leads to the place sought
abbrev pub leads_to : ℕ → Going → Bool
leads_to sought row = leads_to_place sought (row_destination row)

-- the first row leads there
abbrev pub leads_at_once : ℕ → List Going → Bool
leads_at_once sought [] = false
leads_at_once sought (row ∷ rows) = leads_to sought row

-- the destination is a place whose forced motion leads to the place sought
abbrev pub forces_to : CaveView → ℕ → Destination → Bool
forces_to cave sought (Place place) =
    forced cave place && leads_at_once sought (ways_from cave place)
forces_to cave sought _ = false

-- the row leads to the place sought through a place of forced motion
abbrev pub leads_through : CaveView → ℕ → Going → Bool
leads_through cave sought row = forces_to cave sought (row_destination row)

-- the first row that leads to the place sought
abbrev pub direct_row : ℕ → List Going → Option Going
direct_row sought rows = find (leads_to sought) rows

-- the last row that leads there through a place of forced motion
abbrev pub indirect_row : CaveView → ℕ → List Going → Option Going
indirect_row cave sought [] = None
indirect_row cave sought (row ∷ rows) =
    option_or (indirect_row cave sought rows) (if leads_through cave sought row then Some row
    else None)

-- the first motion of a row, if there is the row
abbrev pub first_motion : Option Going → Option ℕ
first_motion found = option_map (λ (row : Going). slice_index row.motions 0) found

-- the place where the player wants to go
abbrev pub sought : Deed ℕ → ℕ
sought d = d.about

-- the ways from here
abbrev pub ways : Deed ℕ → List Going
ways d = ways_from d.cave (here d)

-- the motion that takes the player there at once, or through a place of forced motion
abbrev pub at_once : Deed ℕ → Option ℕ
at_once d = first_motion (direct_row (sought d) (ways d))

abbrev pub in_passing : Deed ℕ → Option ℕ
in_passing d = first_motion (indirect_row d.cave (sought d) (ways d))

-- the player gets there by some motion
abbrev pub possible : (Deed ℕ → Option ℕ) → Test ℕ
possible way d = is_some (way d)

-- the motion by which the player goes back
unfoldable pub back_rows : List (Row ℕ (Option ℕ))
back_rows =
    row_then (same sought here ∷ []) (set_out ∷ say role.BackNone ∷ []) (always None)
    ∷ answer_row (possible at_once ∷ []) at_once
    ∷ answer_row (possible in_passing ∷ []) in_passing
    ∷ otherwise_then (set_out ∷ say role.BackNo ∷ []) (always None)

unfoldable pub go_back : Deed (Unit {0}) → Act (Option ℕ)
go_back d =
    let wanted = place_back d in
    first_fitting_or (noted table.Back back_rows) (nothing_but (always None))
    (deed d.cave wanted.step wanted.scene)
