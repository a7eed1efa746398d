-- How a turn that leaves no question open ends.
use Rattle.std.specs.Prelude.{ℕ, pos, ◌-ℤ◌, Bool, ◌&&◌, int_lt, List, [], ◌∷◌}
use Rattle.base_lines.specs.Numbers.{LAST_OBJECT}
use Rattle.cave_data.specs.CaveView.{CaveView}
use Rattle.cave_words.specs.declared.named.Named.TheVariants as name
use Rattle.world_objects.specs.Objects.{Layout, is_in_hands, prop_of}
use Rattle.turn_scene.specs.Scene.{Scene}
use Rattle.turn_scene.specs.Props.{OYSTER_WRITTEN_ON, UNSEEN}
use Rattle.cave_world.specs.declared.tables.Table.TheVariants as table
use Rattle.turn_clocks.specs.Hints.{after_hints}
use Rattle.turn_scene.specs.Rows.{Test, Effect, Thing, Row, deed, plain_row, by_rows, by_table}
use Rattle.turn_scene.specs.Tests.{the, no, cave_closed, over, it}
use Rattle.turn_scene.specs.Effects.{look, set_prop, follow, for_each_from}

-- an object that is in the hands and hasn't shown yet what it is
abbrev pub is_hidden_in_hands : Layout → ℕ → Bool
is_hidden_in_hands o x = is_in_hands o x && int_lt (prop_of o x) (pos 0)

abbrev pub hides : {C : Type 0} → Thing C → Test C
hides t d = is_hidden_in_hands d.scene.state.objects (t d)

-- prop v below 0 becomes -1 - v
abbrev pub turn_prop : Effect ℕ
turn_prop d = set_prop it (UNSEEN -ℤ prop_of d.scene.state.objects (it d)) d

-- an object in the hands shows what it is
unfoldable pub shown_rows : List (Row ℕ (Unit {0}))
shown_rows = plain_row (hides it ∷ []) (turn_prop ∷ []) ∷ []

unfoldable pub after_object_shown : CaveView → ℕ → Scene → Scene
after_object_shown cave x p = (by_table table.ObjectShown shown_rows (deed cave x p)).scene

-- all that is in the hands shows itself
abbrev pub after_all_shown : CaveView → Scene → Scene
after_all_shown cave p = for_each_from 1 LAST_OBJECT (after_object_shown cave) p

module _ {C : Type 0} where
  abbrev pub show_all : Effect C
  show_all d = follow after_all_shown d

-- in a closed cave all that is in the hands shows itself, the oyster first what is written under it
unfoldable pub hands_rows : List (Row (Unit {0}) (Unit {0}))
hands_rows =
    plain_row (cave_closed ∷ hides (the name.Oyster) ∷ [])
    (look (the name.Oyster) OYSTER_WRITTEN_ON ∷ show_all ∷ [])
    ∷ plain_row (cave_closed ∷ []) (show_all ∷ [])
    ∷ []

-- after a question or the end of the game nothing more is done
unfoldable pub end_rows : List (Row (Unit {0}) (Unit {0}))
end_rows =
    plain_row (no over ∷ []) (by_table table.Hands hands_rows ∷ follow after_hints ∷ [])
    ∷ []

-- a turn ends
unfoldable pub after_end_of_turn : CaveView → Scene → Scene
after_end_of_turn cave p = (by_rows end_rows (deed cave tt p)).scene
