-- Rules that tables of several verbs share: panic, how an object is put down, losses to the snake, and
-- how the troll leaves.
use Rattle.std.specs.Prelude.{ℕ, pos, true, List, [], ◌∷◌}
use Rattle.cave_data.specs.CaveView.{CaveView}
use Rattle.cave_world.specs.declared.state.State.{State}
use Rattle.turn_scene.specs.Scene.{Scene, thing}
use Rattle.cave_world.specs.declared.tables.Table.TheVariants as table
use Rattle.turn_scene.specs.Parts.{with_closing}
use Rattle.turn_scene.specs.Rows.{Test, Effect, Row, deed, plain_row, otherwise, by_table, Deed}
use Rattle.turn_scene.specs.Rows.{Act, Thing, answer_row, otherwise_row, act_by_table, after_all}
use Rattle.turn_scene.specs.Tests.{cave_closed, the, it, is_it, in_bottle, carried, other_prop}
use Rattle.turn_scene.specs.Tests.{at_home, home_of}
use Rattle.turn_scene.specs.Effects.{follow, change, in_scene, bring, set_prop, lose_one, destroy}
use Rattle.turn_scene.specs.Effects.{loosen, move, attach, juggle}
use Rattle.cave_words.specs.declared.named.Named.TheVariants as name
use Rattle.turn_scene.specs.Props.{BIRD_FREE}
use Rattle.turn_scene.specs.Homes.{hold_of}

-- the player tried before
abbrev pub panicked : Test (Unit {0})
panicked d = d.scene.state.closing.is_panicking

abbrev pub with_panic : State → State
with_panic s = with_closing (record (s.closing) { is_panicking = true }) s

-- how many turns a player who panics has left
abbrev pub TURNS_IN_PANIC : ℕ
TURNS_IN_PANIC = 15

abbrev pub with_few_turns : State → State
with_few_turns s = with_closing (record (s.closing) { second_clock = pos TURNS_IN_PANIC }) s

-- a player panics once, and no clock runs in a closed cave
unfoldable pub panic_rows : List (Row (Unit {0}) (Unit {0}))
panic_rows =
    plain_row (panicked ∷ []) []
    ∷ plain_row (cave_closed ∷ []) (change with_panic ∷ [])
    ∷ otherwise (change with_few_turns ∷ change with_panic ∷ [])

unfoldable pub after_panic : CaveView → Scene → Scene
after_panic cave p = (by_table table.Panic panic_rows (deed cave tt p)).scene

module _ {C : Type 0} where
  abbrev pub panic : Effect C
  panic d = follow after_panic d

-- what is put down for an object: for the liquid in the bottle, the bottle
abbrev pub vessel_rows : List (Row ℕ ℕ)
vessel_rows = answer_row (in_bottle it ∷ []) (the name.Bottle) ∷ []

unfoldable pub vessel : Deed ℕ → Act ℕ
vessel d = act_by_table table.Vessel vessel_rows
    (otherwise_row [] it) d

-- the bird comes along with its cage
unfoldable pub caged_bird_rows : List (Row ℕ (Unit {0}))
caged_bird_rows =
    plain_row (is_it name.Cage ∷ other_prop (the name.Bird) BIRD_FREE ∷ []) (bring (the name.Bird) ∷ [])
    ∷ []

-- the bird itself is free
unfoldable pub free_bird_rows : List (Row ℕ (Unit {0}))
free_bird_rows = plain_row (is_it name.Bird ∷ []) (set_prop it BIRD_FREE ∷ []) ∷ []

unfoldable pub put_down : List (Effect ℕ)
put_down =
    by_table table.CagedBird caged_bird_rows
    ∷ by_table table.FreeBird free_bird_rows
    ∷ bring it
    ∷ []

unfoldable pub after_put : CaveView → ℕ → Scene → Scene
after_put cave x p =
    let y = vessel (deed cave x p) in (after_all put_down (deed cave y.step y.scene)).scene

-- an object that is carried is put where the player is
unfoldable pub lay_down_rows : List (Row ℕ (Unit {0}))
lay_down_rows = plain_row (carried it ∷ []) (bring it ∷ []) ∷ []

unfoldable pub after_lay_down : CaveView → ℕ → Scene → Scene
after_lay_down cave x p = (by_table table.LayDown lay_down_rows (deed cave x p)).scene

module _ {C : Type 0} where
  abbrev pub put : Thing C → Effect C
  put t d = in_scene (after_put d.cave (t d) d.scene) d

  abbrev pub lay_down : Thing C → Effect C
  lay_down t d = in_scene (after_lay_down d.cave (t d) d.scene) d

-- a treasure behind the snake is lost while the snake is at home
unfoldable pub loss_to_snake_rows : List (Row (Unit {0}) (Unit {0}))
loss_to_snake_rows = plain_row (at_home (the name.Snake) ∷ []) (lose_one ∷ []) ∷ []

unfoldable pub after_loss_to_snake : CaveView → Scene → Scene
after_loss_to_snake cave p = (by_table table.SnakeLoss loss_to_snake_rows (deed cave tt p)).scene

module _ {C : Type 0} where
  abbrev pub lose_to_snake : Effect C
  lose_to_snake d = follow after_loss_to_snake d

-- the troll is gone, and its second self is at both ends of the bridge
unfoldable pub troll_leaves : List (Effect (Unit {0}))
troll_leaves =
    destroy (the name.Troll)
    ∷ loosen (the name.Troll)
    ∷ move (the name.SecondTroll) (home_of (the name.Troll))
    ∷ attach (the name.SecondTroll) (λ d. hold_of d.cave (thing d.cave name.Troll))
    ∷ juggle (the name.Chasm)
    ∷ []

unfoldable pub after_troll : CaveView → Scene → Scene
after_troll cave p = (after_all troll_leaves (deed cave tt p)).scene

module _ {C : Type 0} where
  -- the troll goes, who is paid or flees
  abbrev pub troll_goes : Effect C
  troll_goes d = follow after_troll d
