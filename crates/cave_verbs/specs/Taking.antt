-- TAKE.
use Rattle.std.specs.Prelude.{ℕ, List, [], ◌∷◌}
use Rattle.data_rows.specs.declared.role.Role.TheVariants as role
use Rattle.cave_words.specs.declared.named.Named.TheVariants as name
use Rattle.world_objects.specs.Lists.{object_of, halves_at}
use Rattle.world_objects.specs.declared.object.Half.{Half}
use Rattle.turn_scene.specs.Props.{BEAR_FED, BEAR_WILD, BIRD_CAGED, BIRD_FREE, BOTTLE_EMPTY}
use Rattle.turn_scene.specs.Props.{PLANT_SMALL}
use Rattle.turn_scene.specs.Effects.{say, carry, set_prop}
use Rattle.turn_scene.specs.Rows.{Thing, row_then, otherwise_then}
use Rattle.turn_scene.specs.Tests.{no, either, there_is, carried, near, prop, immovable, other_prop}
use Rattle.turn_scene.specs.Tests.{prop_up_to, dwarf, in_bottle, full_hands}
use Rattle.cave_verbs.specs.Effects.{default, ask_what}
use Rattle.cave_verbs.specs.Rows.{VerbRow, row, keeps, does, stays, x, is}
use Rattle.cave_verbs.specs.declared.verb.Verb.TheVariants as verb
use Rattle.cave_verbs.specs.declared.task.Task.{Task}
use Rattle.cave_verbs.specs.Things.{bear, bird, bottle, cage, rod}

-- the object of the only half that is here; 0 if there are more halves, or none
abbrev pub lone_object : List Half → ℕ
lone_object (half ∷ []) = object_of half
lone_object _ = 0

abbrev pub lone : Thing Task
lone d = lone_object (halves_at d.scene.state.trail.here d.scene.state.objects.lists)

unfoldable pub bare_take_rows : List VerbRow
bare_take_rows =
    row_then (there_is lone ∷ no dwarf ∷ []) [] (does verb.Take lone)
    ∷ otherwise_then (ask_what ∷ []) keeps

unfoldable pub take_rows : List VerbRow
take_rows =
    row (carried x ∷ []) (default ∷ [])
    ∷ row (immovable x ∷ is name.Plant ∷ prop_up_to x PLANT_SMALL ∷ []) (say role.PlantRoots ∷ [])
    ∷ row (immovable x ∷ is name.Bear ∷ prop x BEAR_FED ∷ []) (say role.BearChained ∷ [])
    ∷ row (immovable x ∷ is name.Chain ∷ other_prop bear BEAR_WILD ∷ []) (say role.ChainLocked ∷ [])
    ∷ row (immovable x ∷ []) (say role.Immovable ∷ [])
    ∷ row_then (in_bottle x ∷ near bottle ∷ []) [] (does verb.Take bottle)
    ∷ row_then (either (is name.Water) (is name.Oil) ∷ carried bottle
    ∷ prop bottle BOTTLE_EMPTY ∷ []) [] (does verb.Fill bottle)
    ∷ row (either (is name.Water) (is name.Oil) ∷ carried bottle ∷ []) (say role.BottleFull ∷ [])
    ∷ row (either (is name.Water) (is name.Oil) ∷ []) (say role.NoBottle ∷ [])
    ∷ row (full_hands ∷ []) (say role.TooMuch ∷ [])
    ∷ row (is name.Bird ∷ prop x BIRD_FREE ∷ carried rod ∷ []) (say role.BirdRod ∷ [])
    ∷ row (is name.Bird ∷ prop x BIRD_FREE ∷ no (carried cage) ∷ []) (say role.NoCage ∷ [])
    ∷ row (is name.Bird ∷ prop x BIRD_FREE ∷ [])
    (set_prop x BIRD_CAGED ∷ carry cage ∷ carry x ∷ say role.Ok ∷ [])
    ∷ row (is name.Bird ∷ []) (carry cage ∷ carry x ∷ say role.Ok ∷ [])
    ∷ row (is name.Cage ∷ other_prop bird BIRD_FREE ∷ []) (carry bird ∷ carry x ∷ say role.Ok ∷ [])
    ∷ otherwise_then (carry x ∷ say role.Ok ∷ []) stays
