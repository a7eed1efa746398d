-- How the objects at a place are described.
use Rattle.std.specs.Prelude.{ℕ, ℤ, pos, ◌-◌, ◌==◌, ◌&&◌, not, int_lt, List, [], ◌∷◌}
use Rattle.std.specs.Int.{int_min}
use Rattle.cave_data.specs.CaveView.{CaveView}
use Rattle.cave_words.specs.declared.named.Named.TheVariants as name
use Rattle.world_objects.specs.Lists.{object_of}
use Rattle.world_objects.specs.Objects.{prop_of, anchor_of, place_of_anchor, is_place}
use Rattle.world_objects.specs.declared.object.Half.{Half}
use Rattle.cave_world.specs.declared.part.Part.TheVariants as part
use Rattle.cave_world.specs.declared.state.State.{State}
use Rattle.turn_scene.specs.Scene.{Scene}
use Rattle.turn_scene.specs.Props.{SEEN, SEEN_FASTENED, STEPS_FROM_ABOVE}
use Rattle.turn_scene.specs.Parts.{with_tallies}
use Rattle.cave_world.specs.declared.tables.Table.TheVariants as table
use Rattle.turn_scene.specs.Rows.{Test, Effect, Row, deed, plain_row, otherwise, by_table}
use Rattle.turn_scene.specs.Tests.{the, either, it, same, in_hands, cave_closed, here}
use Rattle.turn_scene.specs.Effects.{tell, set_prop, change, with_charge, for_each}

-- an object with a prop below 0 counts as unseen
abbrev pub unseen : Test ℕ
unseen d = int_lt (prop_of d.scene.state.objects (it d)) (pos 0)

-- the second half of the object is here
abbrev pub is_second_here : Test ℕ
is_second_here d = is_place (here d) (place_of_anchor (anchor_of d.scene.state.objects (it d)))

-- one treasure fewer counts as unseen
abbrev pub with_one_less_unseen : State → State
with_one_less_unseen s = with_tallies (record (s.tallies) { unseen = s.tallies.unseen - 1 }) s

-- the treasures that count as lost are as many as the unseen ones, and there are some
abbrev pub is_rest_lost : Test ℕ
is_rest_lost d =
    let tallies = d.scene.state.tallies in
    tallies.unseen == tallies.lost && not (tallies.unseen == 0)

abbrev pub SHORT_LAMP : ℕ
SHORT_LAMP = 35

-- the lamp doesn't burn for longer than that any more
abbrev pub with_short_lamp : State → State
with_short_lamp s = with_charge (int_min s.lamp.charge (pos SHORT_LAMP)) s

unfoldable pub last_treasure_rows : List (Row ℕ (Unit {0}))
last_treasure_rows = plain_row (is_rest_lost ∷ []) (change with_short_lamp ∷ []) ∷ []

-- the text of the object for a prop, or for the one that it has
abbrev pub tell_its_text_for : ℤ → Effect ℕ
tell_its_text_for v d = tell (part.Object (it d) v) d

abbrev pub tell_its_text : Effect ℕ
tell_its_text d = tell_its_text_for (prop_of d.scene.state.objects (it d)) d

-- the steps are seen from above at their second place
unfoldable pub object_text_rows : List (Row ℕ (Unit {0}))
object_text_rows =
    plain_row (same it (the name.Steps) ∷ is_second_here ∷ [])
    (tell_its_text_for STEPS_FROM_ABOVE ∷ [])
    ∷ otherwise (tell_its_text ∷ [])

-- a treasure is seen for the first time
unfoldable pub find_treasure : ℤ → List (Effect ℕ)
find_treasure v =
    set_prop it v
    ∷ change with_one_less_unseen
    ∷ by_table table.LastTreasure last_treasure_rows
    ∷ by_table table.ObjectText object_text_rows
    ∷ []

-- neither are the steps described while the gold is in the hands, nor is a treasure that a closed
-- cave hides; the rug and the chain are held fast once they are seen
unfoldable pub object_rows : List (Row ℕ (Unit {0}))
object_rows =
    plain_row (same it (the name.Steps) ∷ in_hands (the name.Gold) ∷ []) []
    ∷ plain_row (unseen ∷ cave_closed ∷ []) []
    ∷ plain_row (unseen ∷ either (same it (the name.Rug)) (same it (the name.Chain)) ∷ [])
    (find_treasure SEEN_FASTENED)
    ∷ plain_row (unseen ∷ []) (find_treasure SEEN)
    ∷ otherwise (by_table table.ObjectText object_text_rows ∷ [])

-- an object is described
unfoldable pub after_object : CaveView → ℕ → Scene → Scene
after_object cave x p = (by_table table.ObjectHere object_rows (deed cave x p)).scene

-- the objects of a list are described one after another
abbrev pub after_all_objects : CaveView → List Half → Scene → Scene
after_all_objects cave halves p = for_each halves (λ half. after_object cave (object_of half)) p
