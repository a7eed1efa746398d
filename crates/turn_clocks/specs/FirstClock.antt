-- The first clock, and how the cave begins to close as it runs out.
use Rattle.std.specs.Prelude.{ℤ, pos, negsuc, ◌-ℤ◌, int_lt, map, true, false, ◌==◌, List, [], ◌∷◌}
use Rattle.std.specs.Ordering.{int_eq}
use Rattle.data_rows.specs.declared.role.Role.TheVariants as role
use Rattle.cave_words.specs.declared.named.Named.TheVariants as name
use Rattle.cave_world.specs.declared.dwarves.Dwarf.{Dwarf}
use Rattle.cave_world.specs.declared.state.State.{State}
use Rattle.turn_scene.specs.Props.{AXE_FREE, BEAR_DEAD, CHAIN_UNLOCKED, FISSURE_OPEN, GRATE_LOCKED}
use Rattle.turn_scene.specs.Parts.{with_closing, with_dwarves}
use Rattle.turn_scene.specs.Rows.{Test, Effect, Row, plain_row, otherwise, by_table}
use Rattle.turn_scene.specs.Tests.{the, prop}
use Rattle.turn_scene.specs.Effects.{change, say, destroy, loosen, set_prop}
use Rattle.turn_scene.specs.SharedRules.{troll_goes}
use Rattle.cave_world.specs.declared.tables.Table.TheVariants as table

-- no treasure counts as unseen
abbrev pub all_seen : Test (Unit {0})
all_seen d = d.scene.state.tallies.unseen == 0

-- the first clock has this many turns left, or -1 once it has run out
abbrev pub first_clock : ℤ → Test (Unit {0})
first_clock turns d = int_eq d.scene.state.closing.first_clock turns

abbrev pub some_turns_left : Test (Unit {0})
some_turns_left d = int_lt (pos 0) d.scene.state.closing.first_clock

-- one turn less is left until the cave begins to close
abbrev pub with_first_clock_down : State → State
with_first_clock_down s = let closing = s.closing in
    with_closing (record closing { first_clock = closing.first_clock -ℤ pos 1 }) s

-- a dwarf is nowhere and hasn't seen the player; where it was before is kept
abbrev pub dismissed_dwarf : Dwarf → Dwarf
dismissed_dwarf dwarf = record dwarf { place = 0; has_seen = false }

-- all six dwarves are nowhere, the pirate too
abbrev pub without_dwarves : State → State
without_dwarves s =
    with_dwarves (record (s.dwarves) { each = map dismissed_dwarf s.dwarves.each }) s

-- the first clock stops for good, and the cave is closing
abbrev pub with_closing_begun : State → State
with_closing_begun s = let closing = s.closing in
    with_closing (record closing { first_clock = negsuc 0; is_closing = true }) s

-- the bear vanishes, but a dead one stays
unfoldable pub closing_bear_rows : List (Row (Unit {0}) (Unit {0}))
closing_bear_rows =
    plain_row (prop (the name.Bear) BEAR_DEAD ∷ []) []
    ∷ otherwise (destroy (the name.Bear) ∷ [])

-- the cave begins to close
unfoldable pub begin_closing : List (Effect (Unit {0}))
begin_closing =
    set_prop (the name.Grate) GRATE_LOCKED
    ∷ set_prop (the name.Fissure) FISSURE_OPEN
    ∷ change without_dwarves
    ∷ troll_goes
    ∷ by_table table.ClosingBear closing_bear_rows
    ∷ set_prop (the name.Chain) CHAIN_UNLOCKED
    ∷ loosen (the name.Chain)
    ∷ set_prop (the name.Axe) AXE_FREE
    ∷ loosen (the name.Axe)
    ∷ say role.Closing
    ∷ change with_closing_begun
    ∷ []
