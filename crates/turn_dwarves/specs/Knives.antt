-- What the five dwarves do, one after another.
use Rattle.std.specs.Prelude.{ℕ, ◌+◌, ◌-◌, ◌*◌, ◌≤◌, nat_lt, Bool, true, false, List, [], ◌∷◌}
use Rattle.cave_words.specs.Stream.{number_drawn}
use Rattle.cave_world.specs.declared.dwarves.Dwarf.{Dwarf}
use Rattle.cave_world.specs.declared.dwarves.Knife.{Knife}
use Rattle.cave_world.specs.declared.state.State.{State}
use Rattle.cave_world.specs.Limits.{AWAKE, PIRATE}
use Rattle.turn_scene.specs.Parts.{with_dwarves}
use Rattle.turn_scene.specs.Rows.{Deed, Act, Test, Effect, Row, deed, answer_row, row_then}
use Rattle.turn_scene.specs.Rows.{row_by_draw, first_fitting_or, nothing_but, otherwise_row}
use Rattle.turn_scene.specs.Rows.{otherwise_then, noted, answer_by_table, plain_row, otherwise}
use Rattle.turn_scene.specs.Rows.{by_table}
use Rattle.turn_scene.specs.Tests.{no}
use Rattle.turn_scene.specs.Effects.{in_scene, change, for_each_from}
use Rattle.cave_world.specs.declared.tables.Table.TheVariants as table
use Rattle.turn_dwarves.specs.Band.{dwarf_of, gone, sees_player, was_with_player}
use Rattle.turn_dwarves.specs.Moving.{after_dwarf_move}
use Rattle.turn_dwarves.specs.declared.knives.Attack.{Attack}

-- no dwarf does anything to the player
abbrev pub no_attack : Attack
no_attack = record { dwarves = 0; knives = 0; hits = 0 }

-- at most n dwarves, knives and hits are counted
pub record IsByUpTo (n : ℕ) (attack : Attack) : Type 0 where
  pub dwarves : attack.dwarves ≤ n
  pub knives : attack.knives ≤ n
  pub hits : attack.hits ≤ n

-- a dwarf by its number, and what was done to the player so far
pub record Raider : Type 0 where
  pub number : ℕ
  pub attack : Attack

abbrev pub raider : ℕ → Attack → Raider
raider number attack = record { number = number; attack = attack }

-- the dwarf that acts
abbrev pub attacker : Deed Raider → Dwarf
attacker d = dwarf_of d.scene.state d.about.number

-- what was done to the player
abbrev pub attack : Deed Raider → Attack
attack d = d.about.attack

abbrev pub with_attack : Attack → Effect Raider
with_attack a d = record d { about = raider d.about.number a }

-- one more dwarf is with the player
abbrev pub count_dwarf : Effect Raider
count_dwarf d = let a = attack d in with_attack (record a { dwarves = a.dwarves + 1 }) d

-- one more knife was thrown
abbrev pub count_knife : Effect Raider
count_knife d = let a = attack d in with_attack (record a { knives = a.knives + 1 }) d

-- one more knife hit
abbrev pub count_hit : Effect Raider
count_hit d = let a = attack d in with_attack (record a { hits = a.hits + 1 }) d

abbrev pub is_vanished : Knife → Bool
is_vanished Knife.Vanished = true
is_vanished _ = false

-- the game has said that knives vanish
abbrev pub knives_vanish : Test Raider
knives_vanish d = is_vanished d.scene.state.dwarves.knife

-- a knife lies where the player is
abbrev pub with_knife_here : State → State
with_knife_here s = with_dwarves (record (s.dwarves) { knife = Knife.At s.trail.here }) s

-- what happens to a knife that is thrown
unfoldable pub thrown_rows : List (Row Raider (Unit {0}))
thrown_rows =
    plain_row (knives_vanish ∷ []) []
    ∷ otherwise (change with_knife_here ∷ [])

abbrev pub throw_knife : Effect Raider
throw_knife d = by_table table.KnifeThrown thrown_rows d

-- the number of cases in the draw of whether a knife hits
abbrev pub KNIFE_CASES : ℕ
KNIFE_CASES = 1000

-- in how many of them it hits, for each degree of anger above that of dwarves that have just woken
abbrev pub HITS_A_DEGREE : ℕ
HITS_A_DEGREE = 95

-- a draw: the knife hits
abbrev pub knife_hits : Test Raider
knife_hits d = let s = d.scene.state in
    nat_lt (number_drawn KNIFE_CASES s.stream) (HITS_A_DEGREE * (s.dwarves.anger - AWAKE))

-- what a dwarf does after it moved: one that was with the player before throws a knife
unfoldable pub threat_rows : List (Row Raider Attack)
threat_rows =
    answer_row (no (sees_player attacker) ∷ []) attack
    ∷ row_then (no (was_with_player attacker) ∷ []) (count_dwarf ∷ []) attack
    ∷ row_by_draw [] knife_hits (throw_knife ∷ count_dwarf ∷ count_knife ∷ count_hit ∷ []) attack
    ∷ otherwise_then (throw_knife ∷ count_dwarf ∷ count_knife ∷ []) attack

unfoldable pub threaten : Deed Raider → Act Attack
threaten d = first_fitting_or (noted table.Threats threat_rows) (nothing_but attack) d

-- the dwarf that acts goes one of its ways
abbrev pub move_attacker : Effect Raider
move_attacker d = in_scene (after_dwarf_move d.cave d.about.number d.scene) d

-- a dwarf that is gone does nothing; any other moves, and then may threaten the player
abbrev pub dwarf_turn_rows : List (Row Raider (Act Attack))
dwarf_turn_rows = answer_row (gone attacker ∷ []) (nothing_but attack) ∷ []

unfoldable pub dwarf_turn : Deed Raider → Act Attack
dwarf_turn d = answer_by_table table.DwarfTurn dwarf_turn_rows
    (otherwise_row (move_attacker ∷ []) threaten) d

-- a dwarf acts, and what it does is counted
abbrev pub let_dwarf_act : ℕ → Effect Attack
let_dwarf_act number d =
    let turn = dwarf_turn (deed d.cave (raider number d.about) d.scene) in
    deed d.cave turn.step turn.scene

-- each of the five before the pirate acts
abbrev pub raid : Effect Attack
raid d = for_each_from 0 PIRATE let_dwarf_act d
