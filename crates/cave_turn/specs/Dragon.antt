-- A fight with the dragon, with bare hands.
use Rattle.std.specs.Prelude.{ℕ, ◌+◌, ◌/◌, List, [], ◌∷◌}
use Rattle.base_lines.specs.Numbers.{LAST_OBJECT}
use Rattle.cave_data.specs.CaveView.{CaveView}
use Rattle.cave_words.specs.declared.named.Named.TheVariants as name
use Rattle.world_objects.specs.Objects.{is_first_at}
use Rattle.cave_world.specs.declared.ending.Question.{Question}
use Rattle.turn_scene.specs.Scene.{Scene}
use Rattle.turn_scene.specs.Props.{DRAGON_DEAD, DRAGON_DYING, RUG_FREE}
use Rattle.cave_world.specs.declared.tables.Table.TheVariants as table
use Rattle.turn_scene.specs.Rows.{Deed, Act, Test, Effect, Row, Thing, deed, plain_row, answer_row}
use Rattle.turn_scene.specs.Rows.{always, otherwise_row, act_by_table, after_all, by_table}
use Rattle.turn_scene.specs.Tests.{the, it, here, either, both, there_is, home_of, second_home_of}
use Rattle.turn_scene.specs.Effects.{look, set_prop, fix, loosen, move, in_scene, for_each_from}
use Rattle.cave_turn.specs.Effects.{arrive, stand}

module _ {C : Type 0} where
  abbrev pub dragon : Thing C
  dragon = the name.Dragon

  abbrev pub rug : Thing C
  rug = the name.Rug

-- half-way between the two homes of the dragon, rounded down
abbrev pub half_way : Deed Question → ℕ
half_way d = (home_of dragon d + second_home_of dragon d) / 2

-- where the dragon is once it is dead: between its two homes; if one of them is no place, at the
-- other; if neither is a place, where the player is
abbrev pub lair_rows : List (Row Question ℕ)
lair_rows =
    answer_row (there_is (home_of dragon) ∷ there_is (second_home_of dragon) ∷ []) half_way
    ∷ answer_row (there_is (home_of dragon) ∷ []) (home_of dragon)
    ∷ answer_row (there_is (second_home_of dragon) ∷ []) (second_home_of dragon) ∷ []

unfoldable pub lair : Deed Question → Act ℕ
lair d = act_by_table table.Lair lair_rows
    (otherwise_row [] here) d

-- the object's first half is at a place, if the place exists
abbrev pub first_at : (Deed ℕ → ℕ) → Test ℕ
first_at place =
    both (there_is place) (λ d. is_first_at d.scene.state.objects (place d) (it d))

-- the object is at a home of the dragon
abbrev pub by_dragon : Test ℕ
by_dragon = either (first_at (home_of dragon)) (first_at (second_home_of dragon))

-- the object is then moved to the lair
unfoldable pub gathering_rows : ℕ → List (Row ℕ (Unit {0}))
gathering_rows place = plain_row (by_dragon ∷ []) (move it (always place) ∷ []) ∷ []

unfoldable pub after_gather : CaveView → ℕ → ℕ → Scene → Scene
after_gather cave place x p =
    (by_table table.Gathering (gathering_rows place) (deed cave x p)).scene

-- each object that is by the dragon is moved, one after another
abbrev pub gather : Effect ℕ
gather d = in_scene (for_each_from 1 LAST_OBJECT (after_gather d.cave (it d)) d.scene) d

-- the dragon lies in its lair, with its rug, which is loose, and all that was there, and the player
-- is there too
unfoldable pub settle : List (Effect ℕ)
settle =
    fix dragon
    ∷ loosen rug
    ∷ move dragon it
    ∷ move rug it
    ∷ gather
    ∷ stand it
    ∷ arrive it
    ∷ []

unfoldable pub after_settle : CaveView → ℕ → Scene → Scene
after_settle cave place p = (after_all settle (deed cave place p)).scene

-- the lair is looked for once
abbrev pub settle_in_lair : Effect Question
settle_in_lair d = let found = lair d in in_scene (after_settle d.cave found.step found.scene) d

-- the dragon is dead
unfoldable pub fight : List (Effect Question)
fight =
    look dragon DRAGON_DYING
    ∷ set_prop dragon DRAGON_DEAD
    ∷ set_prop rug RUG_FREE
    ∷ settle_in_lair
    ∷ []
