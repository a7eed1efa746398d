-- What rows do if something is missing that other rows need, which are then never reached.
use Rattle.std.specs.Prelude.{◌≡◌, ℕ, true, None}
use Rattle.std.specs.FinMap as map
use Rattle.turn_clocks.specs.Clocks.{tick_clocks}
use Rattle.turn_clocks.specs.Hints.{after_consider, give_rows, price_rows}
use Rattle.turn_moves.specs.Bridge.{bridge, cross_bridge}
use Rattle.turn_moves.specs.Squeeze.{squeeze, squeeze_through}
use Rattle.turn_moves.specs.Ways.{staying}
use Rattle.turn_ends.specs.Endings.{class_now, class_rows}
use Rattle.cave_data.specs.CaveView.{CaveView}
use Rattle.data_rows.specs.declared.place_role.PlaceRole.TheVariants as place
use Rattle.data_rows.specs.declared.role.Role.TheVariants as role
use Rattle.turn_scene.specs.Effects.{say}
use Rattle.turn_scene.specs.Rows.{Deed, by_rows, by_table, deed, note_row}
use Rattle.turn_scene.specs.Tests.{is_bound}
use Rattle.turn_scene.specs.Scene.{Scene, after_row, after_saying}
use Rattle.cave_world.specs.declared.tables.Table.TheVariants as table

-- a hint isn't waited for, has no price and gives nothing
pub record ComesToNothing (cave : CaveView) (hint : ℕ) (p : Scene) : Type 0 where
  pub wait : after_consider cave hint p ≡ p
  pub price : (by_rows price_rows (deed cave hint p)).scene ≡ p
  pub gift : (by_table table.HintGiven give_rows (deed cave hint p)).scene ≡ p

-- this holds of a hint that the cave lacks
abbrev pub LackedHintsComeToNothing : Type 0
LackedHintsComeToNothing =
    (cave : CaveView) (hint : ℕ) (p : Scene) → map.get cave.hints hint ≡ None
    → ComesToNothing cave hint p

-- no points are asked for the next class if the score has no class
abbrev pub NoClassWantsPoints : Type 0
NoClassWantsPoints =
    (d : Deed (Unit {0})) → class_now d ≡ None
    → by_table table.Classes class_rows d ≡ say role.OffScale (note_row table.Classes 3 d)

-- the player stays if the narrow passage, or the bridge, leads nowhere
pub record NoWayHasAnEnd : Type 0 where
  pub passage :
      (d : Deed (Unit {0})) → squeeze d ≡ None
      → squeeze_through d ≡ staying (after_saying role.NoWay (after_row table.Squeeze 1 d.scene))
  pub crossing :
      (d : Deed (Unit {0})) → bridge d ≡ None
      → cross_bridge d ≡ staying (after_saying role.NoWay (after_row table.Bridge 1 d.scene))

-- the cave is closed only if both ends of the repository are places
abbrev pub ClosesBetweenPlaces : Type 0
ClosesBetweenPlaces =
    (d : Deed (Unit {0})) → (tick_clocks d).step ≡ true
    → (is_bound place.Ne d ≡ true) × (is_bound place.Sw d ≡ true)
