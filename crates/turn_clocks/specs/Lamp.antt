-- The lamp: it burns down, gets new batteries, goes out, and its player is warned or gives up.
use Rattle.std.specs.Prelude.{ℕ, ℤ, pos, negsuc, ◌+ℤ◌, ◌-ℤ◌, int_le, true, false, List, [], ◌∷◌}
use Rattle.std.specs.Int.{int_min, int_max}
use Rattle.std.specs.Ordering.{int_eq}
use Rattle.data_rows.specs.declared.role.Role.TheVariants as role
use Rattle.cave_words.specs.declared.named.Named.TheVariants as name
use Rattle.cave_world.specs.declared.state.State.{State}
use Rattle.cave_world.specs.Sight.{LAMP_ON}
use Rattle.cave_world.specs.Limits.{LOW_CHARGE, MAX_LAMP_TURNS}
use Rattle.turn_scene.specs.Props.{BATTERIES_FRESH, BATTERIES_USED, LAMP_OFF}
use Rattle.turn_scene.specs.Parts.{with_lamp}
use Rattle.turn_scene.specs.Rows.{Deed, Act, Test, Effect, Row, row_then, plain_row, by_table}
use Rattle.turn_scene.specs.Rows.{first_fitting_or, nothing_but, always, otherwise, noted}
use Rattle.turn_scene.specs.Tests.{the, no, near, prop, nowhere, here, outside, lamp_dead}
use Rattle.turn_scene.specs.Effects.{with_charge, change, say, set_prop, set_charge}
use Rattle.turn_scene.specs.SharedRules.{lay_down}
use Rattle.cave_world.specs.declared.tables.Table.TheVariants as table
use Rattle.turn_clocks.specs.declared.clocks.Clocks.{Clocks}
use Rattle.turn_clocks.specs.declared.clocks.Clocks.TheVariants.{GoOn, GaveUp}

-- a turn is burnt, down to -1
abbrev pub with_turn_burnt : State → State
with_turn_burnt s = with_charge (int_max (s.lamp.charge -ℤ pos 1) (negsuc 0)) s

-- a lit lamp burns
unfoldable pub burning_rows : List (Row (Unit {0}) (Unit {0}))
burning_rows = plain_row (prop (the name.Lamp) LAMP_ON ∷ []) (change with_turn_burnt ∷ []) ∷ []

abbrev pub burn : Effect (Unit {0})
burn = by_table table.Burning burning_rows

-- the lamp has this many turns left
abbrev pub turns_left : ℤ → Test (Unit {0})
turns_left turns d = int_eq d.scene.state.lamp.charge turns

-- the lamp has at most this many turns left
abbrev pub turns_left_up_to : ℤ → Test (Unit {0})
turns_left_up_to turns d = int_le d.scene.state.lamp.charge turns

-- the player has been warned that the lamp is low
abbrev pub is_warned : Test (Unit {0})
is_warned d = d.scene.state.lamp.is_warned

-- the lamp is low, and both it and new batteries are at hand
abbrev pub can_change_batteries : List (Test (Unit {0}))
can_change_batteries =
    turns_left_up_to (pos LOW_CHARGE) ∷ near (the name.Batteries)
    ∷ prop (the name.Batteries) BATTERIES_FRESH ∷ near (the name.Lamp) ∷ []

abbrev pub BATTERY_TURNS : ℕ
BATTERY_TURNS = 2500

-- the lamp burns longer, up to the most, and the player isn't warned yet
abbrev pub with_new_charge : State → State
with_new_charge s =
    let charge = int_min (s.lamp.charge +ℤ pos BATTERY_TURNS) (pos MAX_LAMP_TURNS) in
    with_lamp (record (s.lamp) { charge = charge; is_warned = false }) s

abbrev pub with_warning : State → State
with_warning s = with_lamp (record (s.lamp) { is_warned = true }) s

-- new batteries
unfoldable pub change_batteries : List (Effect (Unit {0}))
change_batteries =
    say role.Replaced
    ∷ set_prop (the name.Batteries) BATTERIES_USED
    ∷ lay_down (the name.Batteries)
    ∷ change with_new_charge
    ∷ []

-- the lamp has gone out, and can't be lit again
abbrev pub go_out : Effect (Unit {0})
go_out d = set_prop (the name.Lamp) LAMP_OFF (set_charge (negsuc 0) d)

-- the warning, which depends on where new batteries could come from
unfoldable pub warning_rows : List (Row (Unit {0}) (Unit {0}))
warning_rows =
    plain_row (prop (the name.Batteries) BATTERIES_USED ∷ []) (say role.LampLowUsed ∷ [])
    ∷ plain_row (nowhere (the name.Batteries) ∷ []) (say role.LampLowFind ∷ [])
    ∷ otherwise (say role.LampLow ∷ [])

unfoldable pub warn : List (Effect (Unit {0}))
warn = change with_warning ∷ by_table table.LampWarning warning_rows ∷ []

-- what follows is that the command is read, or that the player gives up
unfoldable pub lamp_rows : List (Row (Unit {0}) Clocks)
lamp_rows =
    row_then can_change_batteries change_batteries (always GoOn)
    ∷ row_then (turns_left (pos 0) ∷ near (the name.Lamp) ∷ []) (go_out ∷ say role.LampDead ∷ [])
    (always GoOn)
    ∷ row_then (turns_left (pos 0) ∷ []) (go_out ∷ []) (always GoOn)
    ∷ row_then (lamp_dead ∷ outside here ∷ []) (say role.GiveUp ∷ []) (always GaveUp)
    ∷ row_then (turns_left_up_to (pos LOW_CHARGE) ∷ no is_warned ∷ near (the name.Lamp) ∷ [])
    warn (always GoOn)
    ∷ []

-- what happens after the lamp has burnt
unfoldable pub care_for_lamp : Deed (Unit {0}) → Act Clocks
care_for_lamp d = first_fitting_or (noted table.Lamp lamp_rows) (nothing_but (always GoOn)) d

-- the lamp burns a turn, if it is lit, with all that follows from it
abbrev pub lamp_clock : Deed (Unit {0}) → Act Clocks
lamp_clock d = care_for_lamp (burn d)
