-- How the dwarves wake.
use Rattle.std.specs.Prelude.{ℕ, List, [], ◌∷◌}
use Rattle.data_rows.specs.declared.place_role.PlaceRole.TheVariants as landmark
use Rattle.data_rows.specs.declared.role.Role.TheVariants as role
use Rattle.cave_data.specs.CaveView.{CaveView}
use Rattle.cave_words.specs.Stream.{number_drawn}
use Rattle.cave_words.specs.declared.named.Named.TheVariants as name
use Rattle.cave_world.specs.declared.state.State.{State}
use Rattle.cave_world.specs.Limits.{AWAKE, PIRATE}
use Rattle.turn_scene.specs.Scene.{Scene}
use Rattle.turn_scene.specs.Rows.{Deed, Effect, Row, deed, plain_row, chance_row, otherwise, noted}
use Rattle.turn_scene.specs.Rows.{by_rows_about, by_table, after_drawing}
use Rattle.turn_scene.specs.Tests.{the, no, in_the_depths, percent, is_bound, place_of}
use Rattle.turn_scene.specs.Effects.{in_state, in_scene, change, say, bring, for_each_from}
use Rattle.cave_world.specs.declared.tables.Table.TheVariants as table
use Rattle.turn_dwarves.specs.Band.{dwarf_of, with_dwarf, with_anger, its_dwarf, is_with_player}
use Rattle.turn_dwarves.specs.declared.knives.Attack.{Attack}

-- a dwarf vanishes: its place is now 0
unfoldable pub without_dwarf : ℕ → State → State
without_dwarf number s =
    let dwarf = dwarf_of s number in with_dwarf number (record dwarf { place = 0 }) s

abbrev pub remove : Effect ℕ
remove d = in_state (without_dwarf d.about d.scene.state) d

-- a dwarf is gone in 50 of 100 cases
unfoldable pub leaving_rows : List (Row ℕ (Unit {0}))
leaving_rows = chance_row [] (percent 50) (remove ∷ []) ∷ []

-- a draw says which of the five that may be
abbrev pub let_one_leave : Effect Attack
let_one_leave d =
    by_rows_about (λ e. number_drawn PIRATE d.scene.state.stream)
    (noted table.Leaving leaving_rows) (after_drawing d)

-- a dwarf is at a place, and came from there
unfoldable pub with_dwarf_at : ℕ → ℕ → State → State
with_dwarf_at number place s =
    let dwarf = dwarf_of s number in
    with_dwarf number (record dwarf { place = place; last = place }) s

abbrev pub settle_dwarf : (Deed ℕ → ℕ) → Effect ℕ
settle_dwarf place d = in_state (with_dwarf_at d.about (place d) d.scene.state) d

-- where the dwarf is
abbrev pub its_place : Deed ℕ → ℕ
its_place d = (its_dwarf d).place

-- a dwarf that is where the player is goes to another place, if one is named for it, and any dwarf
-- forgets where it came from
unfoldable pub apart_rows : List (Row ℕ (Unit {0}))
apart_rows =
    plain_row (is_with_player its_dwarf ∷ is_bound landmark.Dwarfalt ∷ [])
    (settle_dwarf (place_of landmark.Dwarfalt) ∷ [])
    ∷ otherwise (settle_dwarf its_place ∷ [])

-- a dwarf is kept apart from the player
unfoldable pub after_keeping_one_apart : CaveView → ℕ → Scene → Scene
after_keeping_one_apart cave number p = (by_table table.Apart apart_rows (deed cave number p)).scene

-- each of the five before the pirate is kept apart
abbrev pub keep_apart : Effect Attack
keep_apart d = in_scene (for_each_from 0 PIRATE (after_keeping_one_apart d.cave) d.scene) d

-- the dwarves are awake, two of them may be gone, and one throws its axe, which stays here
unfoldable pub wake : List (Effect Attack)
wake =
    change (with_anger AWAKE)
    ∷ let_one_leave
    ∷ let_one_leave
    ∷ keep_apart
    ∷ say role.AxeThrown
    ∷ bring (the name.Axe)
    ∷ []

-- dwarves that stir wake in the depths, in 5 of 100 cases
unfoldable pub waking_rows : List (Row Attack (Unit {0}))
waking_rows =
    plain_row (no in_the_depths ∷ []) []
    ∷ chance_row [] (percent 95) []
    ∷ otherwise wake
