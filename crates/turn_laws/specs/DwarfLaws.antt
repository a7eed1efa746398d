-- How many dwarves there are.
use Rattle.std.specs.Prelude.{◌≡◌, ℕ, ◌+◌, ◌≤◌, ◌<◌, Bool, true, ◌==◌, not, List, length, filter}
use Rattle.std.specs.Prelude.{take}
use Rattle.cave_data.specs.CaveView.{CaveView}
use Rattle.cave_world.specs.declared.dwarves.Dwarf.{Dwarf}
use Rattle.cave_world.specs.declared.state.State.{State}
use Rattle.turn_dwarves.specs.Band.{dwarf_of}
use Rattle.cave_turn.specs.Turns.{turn_on_line, start_of_game}
use Rattle.turn_laws.specs.Laws.{IsSomewhere}

-- a dwarf that isn't gone
abbrev pub is_living : Dwarf → Bool
is_living dwarf = not (dwarf.place == 0)

-- those of the five dwarves that aren't gone; the sixth is the pirate
abbrev pub living_dwarves : State → List Dwarf
living_dwarves s = filter is_living (take 5 s.dwarves.each)

-- the dwarves that were killed and those that live are together at most five, and none lives once
-- the cave is closing
pub record HasFewDwarves (s : State) : Type 0 where
  pub at_most : s.dwarves.kills + length (living_dwarves s) ≤ 5
  pub none_left : s.closing.is_closing ≡ true → length (living_dwarves s) ≡ 0

-- this holds as a game begins, and each line preserves it if the player is somewhere
pub record FewDwarves : Type 0 where
  pub start : (cave : CaveView) (seed : ℕ) → HasFewDwarves (start_of_game cave seed).state
  pub kept :
      (cave : CaveView) (s : State) (line : List ℕ) → IsSomewhere s → HasFewDwarves s
      → HasFewDwarves (turn_on_line cave s line).state

-- one of the five dwarves that is gone stays gone at each line, if the player is somewhere
abbrev pub GoneForGood : Type 0
GoneForGood =
    (cave : CaveView) (s : State) (line : List ℕ) (number : ℕ) → IsSomewhere s → number < 5
    → (dwarf_of s number).place ≡ 0 → (dwarf_of (turn_on_line cave s line).state number).place ≡ 0
