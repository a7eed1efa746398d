-- Where a motion leads a player.
use Rattle.std.specs.Prelude.{ℕ, ◌+◌, false, ◌==◌, nat_lt, List, [], ◌∷◌, Option, Some, None}
use Rattle.std.specs.List.{list_any}
use Rattle.data_rows.specs.declared.role.Role.TheVariants as role
use Rattle.data_rows.specs.declared.targets.Special.TheVariants.{Squeeze, Bridge}
use Rattle.cave_data.specs.CaveView.{CaveView}
use Rattle.cave_words.specs.declared.named.Named.TheVariants as name
use Rattle.cave_world.specs.Motions.{motion_number}
use Rattle.cave_world.specs.declared.motion.Motion.{Motion}
use Rattle.cave_world.specs.State.{without_visits}
use Rattle.cave_world.specs.Travel.{rows_tried_from, travel}
use Rattle.cave_world.specs.declared.part.Part.TheVariants as part
use Rattle.cave_world.specs.declared.state.State.{State}
use Rattle.cave_world.specs.declared.travel_rows.Outcome.{Outcome}
use Rattle.turn_scene.specs.Scene.{Scene, thing, with_state, after_telling, after_rows}
use Rattle.turn_scene.specs.Scene.{after_saying, after_setting_out}
use Rattle.turn_scene.specs.Places.{outside_place}
use Rattle.turn_scene.specs.Parts.{with_talk}
use Rattle.cave_world.specs.declared.tables.Table.TheVariants as table
use Rattle.turn_scene.specs.Rows.{Deed, Act, Test, Effect, Row, deed, act_of, row_then, plain_row}
use Rattle.turn_scene.specs.Rows.{answer_row, otherwise_row, nothing_but, always, otherwise}
use Rattle.turn_scene.specs.Rows.{by_table, answer_by_table}
use Rattle.turn_scene.specs.Tests.{here, MAX_DETAILS}
use Rattle.turn_scene.specs.Effects.{in_scene, say, change}
use Rattle.turn_moves.specs.Back.{go_back}
use Rattle.turn_moves.specs.Bridge.{cross_bridge}
use Rattle.turn_moves.specs.Squeeze.{squeeze_through}
use Rattle.turn_moves.specs.Ways.{staying}

-- the motion has this name
abbrev pub is_motion : Motion → Test ℕ
is_motion m d = d.about == motion_number m

-- the motion is one of those
abbrev pub is_motion_of : List Motion → Test ℕ
is_motion_of motions d = list_any (λ m. motion_number m == d.about) motions

-- the game may say once more that there are no more details
abbrev pub details_left : Test ℕ
details_left d = nat_lt d.scene.state.talk.details MAX_DETAILS

abbrev pub with_one_detail : State → State
with_one_detail s = with_talk (record (s.talk) { details = s.talk.details + 1 }) s

unfoldable pub enough_rows : List (Row ℕ (Unit {0}))
enough_rows = plain_row (details_left ∷ []) (say role.Enough ∷ change with_one_detail ∷ []) ∷ []

abbrev pub without_visits_here : State → State
without_visits_here s = without_visits s s.trail.here

-- the place before counts as light
abbrev pub forget_darkness : Effect ℕ
forget_darkness d = let p = d.scene in in_scene (record p { was_dark = false }) d

-- the place will be described at length
unfoldable pub look_round : List (Effect ℕ)
look_round =
    by_table table.Enough enough_rows ∷ forget_darkness ∷ change without_visits_here ∷ []

-- the player is at a place before the last one outside the cave
abbrev pub before_cave : Test ℕ
before_cave d = nat_lt (here d) (outside_place d.cave)

-- the motion by which the player travels: none, or the one asked for
abbrev pub no_travel : Deed ℕ → Act (Option ℕ)
no_travel = nothing_but (always None)

abbrev pub that_motion : Deed ℕ → Act (Option ℕ)
that_motion = nothing_but (λ d. Some d.about)

-- or the one that leads back
abbrev pub motion_back : Deed ℕ → Act (Option ℕ)
motion_back d = go_back (deed d.cave tt d.scene)

-- what a motion that the player asks for does: some have their own rules
abbrev pub own_motion_rows : List (Row ℕ (Act (Option ℕ)))
own_motion_rows =
    answer_row (is_motion Motion.Nowhere ∷ []) no_travel
    ∷ row_then (is_motion Motion.Look ∷ []) look_round no_travel
    ∷ row_then (is_motion Motion.Cave ∷ before_cave ∷ []) (say role.CaveOut ∷ []) no_travel
    ∷ row_then (is_motion Motion.Cave ∷ []) (say role.CaveIn ∷ []) no_travel
    ∷ answer_row (is_motion Motion.Back ∷ []) motion_back ∷ []

unfoldable pub own_motion : Deed ℕ → Act (Option ℕ)
own_motion d = answer_by_table table.OwnMotions own_motion_rows
    (otherwise_row [] that_motion) d

-- the most parts that are said of it: one if the player doesn't travel
abbrev pub parts_of_own_motion : Option ℕ → ℕ
parts_of_own_motion None = 1
parts_of_own_motion (Some motion) = 0

abbrev pub directions : List Motion
directions =
    Motion.Up ∷ Motion.Down ∷ Motion.East ∷ Motion.West ∷ Motion.North ∷ Motion.South
    ∷ Motion.Northeast ∷ Motion.Southeast ∷ Motion.Southwest ∷ Motion.Northwest ∷ []

-- what is said of a motion that no row lists
unfoldable pub refusal_rows : List (Row ℕ (Unit {0}))
refusal_rows =
    plain_row (is_motion_of directions ∷ []) (say role.NoDir ∷ [])
    ∷ plain_row (is_motion_of (Motion.Forward ∷ Motion.Left ∷ Motion.Right ∷ []) ∷ [])
    (say role.Facing ∷ [])
    ∷ plain_row (is_motion_of (Motion.Out ∷ Motion.Inside ∷ []) ∷ []) (say role.Inout ∷ [])
    ∷ plain_row (is_motion_of (Motion.Xyzzy ∷ Motion.Plugh ∷ []) ∷ []) (say role.Magic ∷ [])
    ∷ plain_row (is_motion Motion.Crawl ∷ []) (say role.Crawl ∷ [])
    ∷ otherwise (say role.NoMotion ∷ [])

abbrev pub after_refusal : CaveView → ℕ → Scene → Scene
after_refusal cave number p = (by_table table.NoMotion refusal_rows (deed cave number p)).scene

-- where the outcome of a motion leads
abbrev pub journey_of_outcome : CaveView → ℕ → Outcome → Scene → Act ℕ
journey_of_outcome cave motion (Outcome.Go place) p = act_of p place
journey_of_outcome cave motion (Outcome.Say message) p =
    staying (after_telling (part.Message message) p)
journey_of_outcome cave motion (Outcome.Special Squeeze) p = squeeze_through (deed cave tt p)
journey_of_outcome cave motion (Outcome.Special Bridge) p = cross_bridge (deed cave tt p)
journey_of_outcome cave motion Outcome.NoWay p = staying (after_saying role.NoWay p)
journey_of_outcome cave motion Outcome.NoMotion p = staying (after_refusal cave motion p)

-- where the rows of the place lead by a motion
unfoldable pub journey_by_rows : CaveView → ℕ → Scene → Act ℕ
journey_by_rows cave motion p =
    let emerald = thing cave name.Emerald in
    let tried = rows_tried_from cave emerald motion p.state in
    let j = travel cave emerald motion p.state in
    journey_of_outcome cave motion j.outcome (after_rows tried (with_state j.state p))

-- the player sets out, and travels by a motion
unfoldable pub set_forth : CaveView → ℕ → Scene → Act ℕ
set_forth cave motion p = journey_by_rows cave motion (after_setting_out p)

-- the player travels by a motion, or arrives where the player is
abbrev pub journey_by : CaveView → Option ℕ → Scene → Act ℕ
journey_by cave None p = staying p
journey_by cave (Some motion) p = set_forth cave motion p

-- where a motion that the player asks for leads
unfoldable pub journey_by_request : CaveView → ℕ → Scene → Act ℕ
journey_by_request cave number p =
    let own = own_motion (deed cave number p) in journey_by cave own.step own.scene
