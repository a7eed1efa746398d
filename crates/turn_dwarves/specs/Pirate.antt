-- What the pirate does.
use Rattle.std.specs.Prelude.{pos, ◌+◌, ◌==◌, not, List, [], ◌∷◌, ℕ, Bool, Option, unwrap_or, false}
use Rattle.data_rows.specs.declared.place_role.PlaceRole.TheVariants as place
use Rattle.data_rows.specs.declared.role.Role.TheVariants as role
use Rattle.cave_data.specs.CaveView.{CaveView}
use Rattle.cave_words.specs.declared.named.Named.TheVariants as name
use Rattle.cave_world.specs.Limits.{PIRATE}
use Rattle.cave_world.specs.Sight.{LAMP_ON}
use Rattle.cave_world.specs.declared.dwarves.Dwarf.{Dwarf}
use Rattle.turn_scene.specs.Scene.{Scene}
use Rattle.turn_scene.specs.Rows.{Deed, Test, Effect, Row, deed, plain_row, chance_row, otherwise}
use Rattle.turn_scene.specs.Rows.{by_table, Thing, all_hold}
use Rattle.turn_scene.specs.Tests.{the, no, near, prop, prop_from, nowhere, player_at, percent}
use Rattle.turn_scene.specs.Tests.{either, both, it, is_it, carried, is_here, immovable}
use Rattle.turn_scene.specs.Tests.{player_at_home}
use Rattle.turn_scene.specs.Effects.{in_scene, say, send, in_state, follow, for_each}
use Rattle.cave_world.specs.declared.tables.Table.TheVariants as table
use Rattle.turn_dwarves.specs.Band.{dwarf_of, gone, sees_player, with_dwarf}
use Rattle.turn_dwarves.specs.Moving.{after_dwarf_move}
use Rattle.std.specs.List.{list_any}
use Rattle.cave_world.specs.declared.state.State.{State}
use Rattle.turn_scene.specs.Places.{place_named}
use Rattle.turn_scene.specs.Reach.{is_near}
use Rattle.turn_scene.specs.Treasures.{treasures}

-- to the pirate all treasures are fair game, except the pyramid at its own home or at the emerald's
unfoldable pub fair : Test ℕ
fair d =
    no (both (is_it name.Pyramid) (either (player_at_home (the name.Pyramid))
    (player_at_home (the name.Emerald)))) d

-- the player carries a treasure that is fair game
unfoldable pub is_carried_booty : CaveView → Scene → ℕ → Bool
is_carried_booty cave p x = all_hold (fair ∷ carried it ∷ []) (deed cave x p)

unfoldable pub carries_booty : Test (Unit {0})
carries_booty d = list_any (is_carried_booty d.cave d.scene) treasures

-- a treasure is at hand
unfoldable pub treasure_near : Test (Unit {0})
treasure_near d = list_any (is_near d.cave d.scene.state) treasures

-- a treasure that is fair game is brought to the pirate's chest if it is carried, or here and loose
unfoldable pub theft_rows : List (Row ℕ (Unit {0}))
theft_rows =
    plain_row (no fair ∷ []) []
    ∷ plain_row (carried it ∷ []) (send it place.Chest ∷ [])
    ∷ plain_row (is_here it ∷ no (immovable it) ∷ []) (send it place.Chest ∷ [])
    ∷ []

unfoldable pub after_stealing : CaveView → ℕ → Scene → Scene
after_stealing cave x p = (by_table table.Theft theft_rows (deed cave x p)).scene

-- the treasures of a list are stolen one after another
abbrev pub after_stealing_all : CaveView → List ℕ → Scene → Scene
after_stealing_all cave xs p = for_each xs (after_stealing cave) p

-- all treasures are stolen
abbrev pub steal_all : Effect (Unit {0})
steal_all d = follow (λ cave. after_stealing_all cave treasures) d

-- the pirate is at its chest, came from there, and no longer sees the player
abbrev pub dwarf_at_home : Option ℕ → Dwarf → Dwarf
dwarf_at_home chest dwarf = record {
  place = unwrap_or chest dwarf.place;
  last = unwrap_or chest dwarf.last;
  has_seen = false;
}

unfoldable pub with_pirate_home : CaveView → State → State
with_pirate_home cave s =
    with_dwarf PIRATE (dwarf_at_home (place_named cave place.Chest) (dwarf_of s PIRATE)) s

abbrev pub go_home : Effect (Unit {0})
go_home d = in_state (with_pirate_home d.cave d.scene.state) d

-- the objects that are the pirate's own
abbrev pub chest : Thing (Unit {0})
chest = the name.Chest

abbrev pub message : Thing (Unit {0})
message = the name.Message

-- the pirate leaves its message, takes all that it can get, and goes home
unfoldable pub take_booty : List (Effect (Unit {0}))
take_booty = send message place.Message ∷ steal_all ∷ go_home ∷ []

-- the pirate
abbrev pub pirate : Deed (Unit {0}) → Dwarf
pirate d = dwarf_of d.scene.state PIRATE

-- the pirate came just now
abbrev pub pirate_came : Test (Unit {0})
pirate_came d = let one = pirate d in not (one.last == one.place)

-- one treasure more counts as unseen than count as lost
abbrev pub one_left : Test (Unit {0})
one_left d = let tallies = d.scene.state.tallies in tallies.unseen == tallies.lost + 1

-- a pirate who is after the player robs; otherwise it hides its chest; otherwise it may be heard.
-- One that hasn't left its message yet puts its chest in its place before it takes its booty
unfoldable pub pirate_rows : List (Row (Unit {0}) (Unit {0}))
pirate_rows =
    plain_row (carries_booty ∷ nowhere message ∷ [])
    (say role.Booty ∷ send chest place.Chest ∷ take_booty)
    ∷ plain_row (carries_booty ∷ []) (say role.Booty ∷ take_booty)
    ∷ plain_row (no treasure_near ∷ one_left ∷ nowhere chest ∷ near (the name.Lamp)
    ∷ prop (the name.Lamp) LAMP_ON ∷ [])
    (say role.ChestHid ∷ send chest place.Chest ∷ send message place.Message ∷ go_home ∷ [])
    ∷ chance_row (pirate_came ∷ []) (percent 20) (say role.Rustle ∷ [])
    ∷ []

-- the pirate is after a player whom it sees away from its chest, if that hasn't been seen yet
unfoldable pub chase_rows : List (Row (Unit {0}) (Unit {0}))
chase_rows =
    plain_row (sees_player pirate ∷ player_at place.Chest ∷ []) []
    ∷ plain_row (sees_player pirate ∷ prop_from chest (pos 0) ∷ []) []
    ∷ plain_row (sees_player pirate ∷ []) (by_table table.Pirate pirate_rows ∷ [])
    ∷ []

abbrev pub move_pirate : Effect (Unit {0})
move_pirate d = in_scene (after_dwarf_move d.cave PIRATE d.scene) d

-- a pirate who isn't gone moves like a dwarf, and then may be after the player
unfoldable pub pirate_turn_rows : List (Row (Unit {0}) (Unit {0}))
pirate_turn_rows =
    plain_row (gone pirate ∷ []) []
    ∷ otherwise (move_pirate ∷ by_table table.Chase chase_rows ∷ [])

unfoldable pub after_pirate : CaveView → Scene → Scene
after_pirate cave p = (by_table table.PirateTurn pirate_turn_rows (deed cave tt p)).scene
