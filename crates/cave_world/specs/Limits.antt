-- How far the counts of a state go, and how many dwarves there are.
use Rattle.std.specs.Prelude.{ℕ, ℤ, pos, negsuc, ◌≤ℤ◌}

-- the most turns that a lamp can still burn
abbrev pub MAX_LAMP_TURNS : ℕ
MAX_LAMP_TURNS = 100000

-- a lamp that burns this many turns more, or fewer, is low
abbrev pub LOW_CHARGE : ℕ
LOW_CHARGE = 30

abbrev pub LOWEST_MAGIC : ℤ
LOWEST_MAGIC = negsuc 998

abbrev pub HIGHEST_MAGIC : ℤ
HIGHEST_MAGIC = pos 999

abbrev pub IsMagic : ℤ → Type 0
IsMagic number = (LOWEST_MAGIC ≤ℤ number) × (number ≤ℤ HIGHEST_MAGIC)

-- how many dwarves there are, with the pirate
abbrev pub dwarf_count : ℕ
dwarf_count = 6

-- the number of the pirate, who comes after the other dwarves
abbrev pub PIRATE : ℕ
PIRATE = 5

-- how angry dwarves are who sleep, who stir, and who are awake
abbrev pub ASLEEP : ℕ
ASLEEP = 0

abbrev pub STIRRING : ℕ
STIRRING = 1

abbrev pub AWAKE : ℕ
AWAKE = 2

-- how angry dwarves can get
abbrev pub MAX_ANGER : ℕ
MAX_ANGER = 13

-- the most dwarves killed that are counted
abbrev pub MAX_KILLS : ℕ
MAX_KILLS = 60000
