-- The bridge that a troll guards.
use Rattle.std.specs.Prelude.{ℕ, ◌==◌, if◌then◌else◌, List, [], ◌∷◌, Option, Some, None}
use Rattle.data_rows.specs.declared.role.Role.TheVariants as role
use Rattle.cave_words.specs.declared.named.Named.TheVariants as name
use Rattle.turn_scene.specs.Scene.{thing}
use Rattle.turn_scene.specs.Homes.{hold_of}
use Rattle.turn_scene.specs.Props.{BEAR_DEAD, CHASM_UNBRIDGED, TROLL_CALM, TROLL_FLED}
use Rattle.turn_scene.specs.Props.{TROLL_RETURNING, UNSEEN}
use Rattle.cave_world.specs.declared.tables.Table.TheVariants as table
use Rattle.turn_scene.specs.Rows.{Deed, Act, Test, Effect, Row, row_then, plain_row}
use Rattle.turn_scene.specs.Rows.{first_fitting_or, nothing_but, otherwise_then, noted, by_table}
use Rattle.turn_scene.specs.Tests.{the, no, carried, prop, prop_up_to, here, home_of}
use Rattle.turn_scene.specs.Tests.{second_home_of, there_is}
use Rattle.turn_scene.specs.Effects.{say, look, move, destroy, fix, loosen, juggle, set_prop}
use Rattle.turn_scene.specs.Effects.{lose_one, attach}
use Rattle.turn_moves.specs.Ways.{Passage, other_end, passable, end_of, die_at}

-- an end of a bridge is a place of the cave, which 0 isn't
abbrev pub bridgehead : ℕ → Option ℕ
bridgehead place = if place == 0 then None else Some place

-- the bridge leads from one of the two places where the troll is at home to the other
unfoldable pub bridge : Passage (Unit {0})
bridge d =
    if there_is (the name.Troll) d
    then other_end (here d) (bridgehead (home_of (the name.Troll) d))
    (bridgehead (second_home_of (the name.Troll) d))
    else None

-- a player whom the troll lets pass is stopped the next time
unfoldable pub toll_rows : List (Row (Unit {0}) (Unit {0}))
toll_rows =
    plain_row (prop (the name.Troll) TROLL_CALM ∷ [])
    (set_prop (the name.Troll) TROLL_RETURNING ∷ [])
    ∷ []

abbrev pub pass_troll : Effect (Unit {0})
pass_troll = by_table table.Toll toll_rows

-- spices that haven't been seen yet are lost
unfoldable pub spices_rows : List (Row (Unit {0}) (Unit {0}))
spices_rows = plain_row (prop_up_to (the name.Spices) UNSEEN ∷ []) (lose_one ∷ []) ∷ []

-- the bridge breaks under the bear and the player
unfoldable pub break_bridge : List (Effect (Unit {0}))
break_bridge =
    say role.BridgeFalls
    ∷ set_prop (the name.Chasm) CHASM_UNBRIDGED
    ∷ set_prop (the name.Troll) TROLL_FLED
    ∷ move (the name.Bear) (end_of bridge)
    ∷ fix (the name.Bear)
    ∷ set_prop (the name.Bear) BEAR_DEAD
    ∷ by_table table.SpicesLost spices_rows
    ∷ die_at (end_of bridge)
    ∷ []

-- the bear is carried once the troll has let the player pass
abbrev pub bear_comes_along : Test (Unit {0})
bear_comes_along d = carried (the name.Bear) (pass_troll d)

-- a missing way holds the player back, or the troll, who asks for a treasure again, at both ends of
-- the bridge; the bridge bears the player, but not the bear too
unfoldable pub bridge_rows : List (Row (Unit {0}) ℕ)
bridge_rows =
    row_then (no (passable bridge) ∷ []) (say role.NoWay ∷ []) here
    ∷ row_then (prop (the name.Troll) TROLL_RETURNING ∷ [])
    (look (the name.Troll) TROLL_RETURNING ∷ set_prop (the name.Troll) TROLL_CALM
    ∷ destroy (the name.SecondTroll) ∷ loosen (the name.SecondTroll)
    ∷ move (the name.Troll) (home_of (the name.Troll))
    ∷ attach (the name.Troll) (λ d. hold_of d.cave (thing d.cave name.Troll))
    ∷ juggle (the name.Chasm) ∷ []) here
    ∷ row_then (no bear_comes_along ∷ []) (pass_troll ∷ []) (end_of bridge)
    ∷ otherwise_then (pass_troll ∷ break_bridge) here

-- where the bridge leads
unfoldable pub cross_bridge : Deed (Unit {0}) → Act ℕ
cross_bridge d = first_fitting_or (noted table.Bridge bridge_rows) (nothing_but here) d
