-- THROW.
use Rattle.std.specs.Prelude.{ℕ, ◌+◌, false, ◌==◌, min, List, [], ◌∷◌, take, Option, Some, None}
use Rattle.std.specs.Prelude.{slice_index_or, slice_set}
use Rattle.std.specs.List.{position}
use Rattle.data_rows.specs.declared.role.Role.TheVariants as role
use Rattle.cave_words.specs.declared.named.Named.TheVariants as name
use Rattle.cave_world.specs.Limits.{MAX_KILLS, PIRATE}
use Rattle.cave_world.specs.State.{no_dwarf}
use Rattle.cave_world.specs.declared.dwarves.Dwarf.{Dwarf}
use Rattle.cave_world.specs.declared.state.State.{State}
use Rattle.turn_scene.specs.Reach.{is_dwarf_at}
use Rattle.turn_scene.specs.Props.{AXE_BY_BEAR, BEAR_WILD, DRAGON_ALIVE}
use Rattle.turn_scene.specs.Parts.{with_dwarves}
use Rattle.turn_scene.specs.Rows.{Test, Effect, row_then, row_by_draw, always, otherwise_then}
use Rattle.turn_scene.specs.Effects.{in_state, say, bring, destroy, fix, juggle, set_prop}
use Rattle.turn_scene.specs.SharedRules.{troll_goes}
use Rattle.turn_scene.specs.Tests.{no, carried, near, is_here, prop, dwarf, treasure, one_in}
use Rattle.cave_verbs.specs.Rows.{VerbRow, row, again, does, x, is}
use Rattle.cave_verbs.specs.Effects.{default}
use Rattle.cave_verbs.specs.declared.verb.Verb.TheVariants as verb
use Rattle.cave_verbs.specs.declared.task.Task.{Task}
use Rattle.cave_verbs.specs.Things.{bear, dragon, second_rod, troll}

abbrev pub killed_dwarf : Dwarf → Dwarf
killed_dwarf one = record one { place = 0; has_seen = false }

abbrev pub without_one : List Dwarf → Option ℕ → List Dwarf
without_one each None = each
without_one each (Some index) =
    slice_set each index (killed_dwarf (slice_index_or each index no_dwarf))

-- the first of the five dwarves that is at the place is gone; the sixth is the pirate
unfoldable pub without_first_at : ℕ → List Dwarf → List Dwarf
without_first_at place each = without_one each (position (is_dwarf_at place) (take PIRATE each))

abbrev pub with_one_killed : State → State
with_one_killed s = let dwarves = s.dwarves in
    let each = without_first_at s.trail.here dwarves.each in
    with_dwarves (record dwarves { kills = min (dwarves.kills + 1) MAX_KILLS; each = each }) s

-- the first dwarf that is here is killed
abbrev pub strike : Effect Task
strike d = in_state (with_one_killed d.scene.state) d

-- no dwarf was killed yet
abbrev pub is_first_kill : Test Task
is_first_kill d = d.scene.state.dwarves.kills == 0

-- an axe that is thrown at a dwarf misses in one of three cases
unfoldable pub throw_rows : List VerbRow
throw_rows =
    row_then (is name.Rod ∷ no (carried x) ∷ carried second_rod ∷ [])
    [] (does verb.Throw second_rod)
    ∷ row (no (carried x) ∷ []) (default ∷ [])
    ∷ row (treasure x ∷ is_here troll ∷ []) (destroy x ∷ troll_goes ∷ say role.TrollPaid ∷ [])
    ∷ row_then (is name.Food ∷ near bear ∷ []) [] (does verb.Feed bear)
    ∷ row_then (no (is name.Axe) ∷ []) [] (does verb.Drop x)
    ∷ row_by_draw (dwarf ∷ []) (one_in 3) (say role.AxeMiss ∷ bring x ∷ []) again
    ∷ row_then (dwarf ∷ is_first_kill ∷ []) (strike ∷ say role.AxeFirst ∷ bring x ∷ []) again
    ∷ row_then (dwarf ∷ []) (strike ∷ say role.AxeKill ∷ bring x ∷ []) again
    ∷ row_then (is_here dragon ∷ prop dragon DRAGON_ALIVE ∷ []) (say role.AxeDragon ∷ bring x ∷ [])
    again
    ∷ row_then (is_here troll ∷ []) (say role.AxeTroll ∷ bring x ∷ []) again
    ∷ row (near bear ∷ prop bear BEAR_WILD ∷ [])
    (bring x ∷ fix x ∷ set_prop x AXE_BY_BEAR ∷ juggle bear ∷ say role.AxeBear ∷ [])
    ∷ otherwise_then [] (does verb.Kill (always 0))
