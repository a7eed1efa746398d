-- The six dwarves by their numbers from 0, what rows ask of them, and how angry they are. The last
-- is the pirate.
use Rattle.std.specs.Prelude.{ℕ, ◌==◌, slice_index_or, slice_set}
use Rattle.cave_world.specs.State.{no_dwarf}
use Rattle.cave_world.specs.declared.dwarves.Dwarf.{Dwarf}
use Rattle.cave_world.specs.declared.state.State.{State}
use Rattle.turn_scene.specs.Parts.{with_dwarves}
use Rattle.turn_scene.specs.Rows.{Deed, Test}
use Rattle.turn_scene.specs.Tests.{here}

unfoldable pub dwarf_of : State → ℕ → Dwarf
dwarf_of s number = slice_index_or s.dwarves.each number no_dwarf

unfoldable pub with_dwarf : ℕ → Dwarf → State → State
with_dwarf number dwarf s =
    let dwarves = s.dwarves in
    with_dwarves (record dwarves { each = slice_set dwarves.each number dwarf }) s

abbrev pub with_anger : ℕ → State → State
with_anger n s = with_dwarves (record (s.dwarves) { anger = n }) s

-- the dwarf that a rule is about, by its number
abbrev pub its_dwarf : Deed ℕ → Dwarf
its_dwarf d = dwarf_of d.scene.state d.about

-- what rows about anything ask of a dwarf
module _ {C : Type 0} where
  -- a dwarf is nowhere
  abbrev pub gone : (Deed C → Dwarf) → Test C
  gone who d = (who d).place == 0

  -- a dwarf has seen the player
  abbrev pub sees_player : (Deed C → Dwarf) → Test C
  sees_player who d = (who d).has_seen

  -- a dwarf is where the player is
  abbrev pub is_with_player : (Deed C → Dwarf) → Test C
  is_with_player who d = (who d).place == here d

  -- it was there before it moved
  abbrev pub was_with_player : (Deed C → Dwarf) → Test C
  was_with_player who d = (who d).last == here d
