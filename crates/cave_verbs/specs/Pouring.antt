-- POUR, DRINK and FILL.
use Rattle.std.specs.Prelude.{ℕ, pos, ◌+ℤ◌, int_div, ◌==◌, ◌||◌, if◌then◌else◌, List, [], ◌∷◌}
use Rattle.std.specs.Prelude.{unwrap_or}
use Rattle.std.specs.Int.{int_rem_euclid}
use Rattle.data_rows.specs.declared.role.Role.TheVariants as role
use Rattle.cave_data.specs.CaveView.{CaveView}
use Rattle.cave_words.specs.declared.named.Named.{Named}
use Rattle.world_objects.specs.Objects.{prop_of}
use Rattle.cave_world.specs.declared.state.State.{State}
use Rattle.turn_scene.specs.Scene.{is_called}
use Rattle.turn_scene.specs.Reach.{liquid_of}
use Rattle.turn_scene.specs.Props.{BOTTLE_EMPTY, BOTTLE_OF_OIL, BOTTLE_OF_WATER, DOOR_OILED}
use Rattle.turn_scene.specs.Props.{DOOR_RUSTY, VASE_BROKEN}
use Rattle.turn_scene.specs.Effects.{say, look, bring, fix, set_prop}
use Rattle.turn_scene.specs.Rows.{Test, Effect, Thing, row_then, otherwise_then}
use Rattle.turn_scene.specs.Tests.{no, either, both, there_is, carried, near, is_here, in_bottle}
use Rattle.turn_scene.specs.Tests.{bottle_full, in_lake, lake}
use Rattle.cave_verbs.specs.Effects.{default, ask_what}
use Rattle.cave_verbs.specs.Rows.{VerbRow, row, keeps, again, does, stays, x, no_object, is}
use Rattle.cave_verbs.specs.declared.verb.Verb.TheVariants as verb
use Rattle.cave_verbs.specs.declared.task.Task.{Task}
use Rattle.cave_verbs.specs.Things.{bottle, door, oil, plant, second_plant, water}

-- what is poured: what is in the bottle, if the bottle or nothing is named; 0 for a liquid without
-- a name
abbrev pub poured_of : CaveView → State → ℕ → ℕ
poured_of cave s y =
    if y == 0 || is_called cave y Named.Bottle then unwrap_or (liquid_of cave s) 0 else y

abbrev pub what_is_poured : Thing Task
what_is_poured d = poured_of d.cave d.scene.state d.about.object

-- what is poured has a name
abbrev pub pours : Named → Test Task
pours n d = is_called d.cave (what_is_poured d) n

abbrev pub empty_bottle : Effect Task
empty_bottle d = set_prop bottle BOTTLE_EMPTY d

abbrev pub look_above : Thing Task → Effect Task
look_above t d = look t (prop_of d.scene.state.objects (t d) +ℤ pos 1) d

-- a prop goes up by two, around from 5 to 0
abbrev pub grow : Thing Task → Effect Task
grow t d = set_prop t (int_rem_euclid (prop_of d.scene.state.objects (t d) +ℤ pos 2) (pos 6)) d

-- one object's prop becomes half of another's
abbrev pub halve : Thing Task → Thing Task → Effect Task
halve t of d = set_prop t (int_div (prop_of d.scene.state.objects (of d)) (pos 2)) d

-- the plant and its upper part grow with the water
abbrev pub water_plant : List (Effect Task)
water_plant =
    look_above plant ∷ grow plant
    ∷ halve second_plant plant ∷ []

abbrev pub water_at_hand : Test Task
water_at_hand = both (in_bottle water) (near bottle)

unfoldable pub pour_rows : List VerbRow
pour_rows =
    row_then (either no_object (is Named.Bottle) ∷ no bottle_full ∷ []) (ask_what ∷ []) keeps
    ∷ row (no (carried what_is_poured) ∷ []) (default ∷ [])
    ∷ row (no (pours Named.Water) ∷ no (pours Named.Oil) ∷ []) (say role.CantPour ∷ [])
    ∷ row (is_here door ∷ pours Named.Oil ∷ [])
    (empty_bottle ∷ set_prop door DOOR_OILED ∷ say role.DoorOiled ∷ [])
    ∷ row (is_here door ∷ [])
    (empty_bottle ∷ set_prop door DOOR_RUSTY ∷ say role.DoorWet ∷ [])
    ∷ row_then (is_here plant ∷ pours Named.Water ∷ [])
    (empty_bottle ∷ water_plant) again
    ∷ row (is_here plant ∷ []) (empty_bottle ∷ say role.PlantOil ∷ [])
    ∷ otherwise_then (empty_bottle ∷ say role.PourGround ∷ []) stays

unfoldable pub drink_rows : List VerbRow
drink_rows =
    row_then (no_object ∷ no (in_lake water) ∷ no water_at_hand ∷ [])
    (ask_what ∷ []) keeps
    ∷ row (there_is x ∷ no (is Named.Water) ∷ []) (say role.Ridiculous ∷ [])
    ∷ row (water_at_hand ∷ []) (empty_bottle ∷ say role.Drunk ∷ [])
    ∷ otherwise_then (default ∷ []) stays

unfoldable pub bare_fill_rows : List VerbRow
bare_fill_rows =
    row_then (near bottle ∷ []) [] (does verb.Fill bottle)
    ∷ otherwise_then (ask_what ∷ []) keeps

unfoldable pub fill_rows : List VerbRow
fill_rows =
    row (is Named.Vase ∷ no lake ∷ []) (say role.VaseDry ∷ [])
    ∷ row (is Named.Vase ∷ no (carried x) ∷ []) (say role.NotHeld ∷ [])
    ∷ row (is Named.Vase ∷ []) (say role.VaseBreak ∷ set_prop x VASE_BROKEN ∷ fix x ∷ bring x ∷ [])
    ∷ row (no (is Named.Bottle) ∷ []) (default ∷ [])
    ∷ row (bottle_full ∷ []) (say role.BottleFull ∷ [])
    ∷ row (no lake ∷ []) (say role.NoLake ∷ [])
    ∷ row (in_lake oil ∷ []) (set_prop x BOTTLE_OF_OIL ∷ say role.FilledOil ∷ [])
    ∷ otherwise_then (set_prop x BOTTLE_OF_WATER ∷ say role.FilledWater ∷ []) stays
