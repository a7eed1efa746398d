-- The rules of a counter of four digits.
use Rattle.std.specs.Prelude.{ℕ, ◌+◌, ◌%◌, ◌<◌, Bool, List, bytes_eq, codes, if◌then◌else◌}
use Rattle.cave_replay.specs.Edit.{Game}
use Rattle.cave_replay.specs.Play.{MachineRules, state_after}

-- a line that counts
abbrev pub is_click : List ℕ → Bool
is_click line = bytes_eq line (codes "click")

-- the number after a line: after 9,999 it begins again at 0
abbrev pub number_after : ℕ → List ℕ → ℕ
number_after number line = if is_click line then (number + 1) % 10000 else number

-- a number of four digits
abbrev pub IsNumber : ℕ → Type 0
IsNumber number = number < 10000

-- it begins with the last digits of the seed; each line says the number, and a click ticks
abbrev pub counter_rules : MachineRules ℕ ℕ
counter_rules = record {
  begun = λ seed. seed % 10000;
  greeting = λ seed. seed % 10000;
  after = number_after;
  said = number_after;
  ticked = λ number line. is_click line;
}

-- the number of a counter that begins by the seed, and counts the whole log
abbrev pub number_at_end : Game → ℕ
number_at_end game = state_after counter_rules (game.seed % 10000) game.log
