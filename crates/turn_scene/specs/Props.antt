-- The props of objects: the numbers that say what state an object is in, and that choose its text.
use Rattle.std.specs.Prelude.{ℤ, pos, negsuc}

-- a treasure that hasn't been seen yet; from here down, what a closed cave hides
abbrev pub UNSEEN : ℤ
UNSEEN = negsuc 0

-- what has been seen, if no other prop says more of it
abbrev pub SEEN : ℤ
SEEN = pos 0

-- the rug under the dragon and the chain round the bear, as they are first seen
abbrev pub SEEN_FASTENED : ℤ
SEEN_FASTENED = pos 1

-- the axe: for the taking, or beside the bear and out of reach
abbrev pub AXE_FREE : ℤ
AXE_FREE = pos 0

abbrev pub AXE_BY_BEAR : ℤ
AXE_BY_BEAR = pos 1

-- the batteries
abbrev pub BATTERIES_FRESH : ℤ
BATTERIES_FRESH = pos 0

abbrev pub BATTERIES_USED : ℤ
BATTERIES_USED = pos 1

-- the bear: wild and chained, fed and still chained, off its chain, and fallen with the bridge
abbrev pub BEAR_WILD : ℤ
BEAR_WILD = pos 0

abbrev pub BEAR_FED : ℤ
BEAR_FED = pos 1

abbrev pub BEAR_FREE : ℤ
BEAR_FREE = pos 2

abbrev pub BEAR_DEAD : ℤ
BEAR_DEAD = pos 3

-- the bird, outside its cage or in it
abbrev pub BIRD_FREE : ℤ
BIRD_FREE = pos 0

abbrev pub BIRD_CAGED : ℤ
BIRD_CAGED = pos 1

-- the bottle, by what is in it
abbrev pub BOTTLE_OF_WATER : ℤ
BOTTLE_OF_WATER = pos 0

abbrev pub BOTTLE_EMPTY : ℤ
BOTTLE_EMPTY = pos 1

abbrev pub BOTTLE_OF_OIL : ℤ
BOTTLE_OF_OIL = pos 2

-- the chain; it is locked to nothing but its wall
abbrev pub CHAIN_UNLOCKED : ℤ
CHAIN_UNLOCKED = pos 0

abbrev pub CHAIN_LOCKED : ℤ
CHAIN_LOCKED = pos 2

-- the chasm whose bridge is broken
abbrev pub CHASM_UNBRIDGED : ℤ
CHASM_UNBRIDGED = pos 1

-- the door
abbrev pub DOOR_RUSTY : ℤ
DOOR_RUSTY = pos 0

abbrev pub DOOR_OILED : ℤ
DOOR_OILED = pos 1

-- the dragon; the second is the text of its death
abbrev pub DRAGON_ALIVE : ℤ
DRAGON_ALIVE = pos 0

abbrev pub DRAGON_DYING : ℤ
DRAGON_DYING = pos 1

abbrev pub DRAGON_DEAD : ℤ
DRAGON_DEAD = pos 2

-- the texts of the eggs as they go home: they come into sight, go out of it, or neither
abbrev pub EGGS_APPEARING : ℤ
EGGS_APPEARING = pos 0

abbrev pub EGGS_VANISHING : ℤ
EGGS_VANISHING = pos 1

abbrev pub EGGS_ELSEWHERE : ℤ
EGGS_ELSEWHERE = pos 2

-- the fissure without its bridge
abbrev pub FISSURE_OPEN : ℤ
FISSURE_OPEN = pos 0

-- the grate
abbrev pub GRATE_LOCKED : ℤ
GRATE_LOCKED = pos 0

abbrev pub GRATE_UNLOCKED : ℤ
GRATE_UNLOCKED = pos 1

-- the lamp that doesn't burn
abbrev pub LAMP_OFF : ℤ
LAMP_OFF = pos 0

-- the text of the oyster that mentions the writing on it
abbrev pub OYSTER_WRITTEN_ON : ℤ
OYSTER_WRITTEN_ON = pos 1

-- the plant that wasn't watered; of its upper part, that it isn't there
abbrev pub PLANT_SMALL : ℤ
PLANT_SMALL = pos 0

-- the rug beside the dead dragon
abbrev pub RUG_FREE : ℤ
RUG_FREE = pos 0

-- the snake that the bird drove away
abbrev pub SNAKE_GONE : ℤ
SNAKE_GONE = pos 1

-- the text of the steps at their second place
abbrev pub STEPS_FROM_ABOVE : ℤ
STEPS_FROM_ABOVE = pos 1

-- the troll: it waits for its toll or has it, comes back at the next crossing, or is gone for good
abbrev pub TROLL_CALM : ℤ
TROLL_CALM = pos 0

abbrev pub TROLL_RETURNING : ℤ
TROLL_RETURNING = pos 1

abbrev pub TROLL_FLED : ℤ
TROLL_FLED = pos 2

-- the vase; the second and the fourth are texts: it lands on the pillow, or breaks as it falls
abbrev pub VASE_WHOLE : ℤ
VASE_WHOLE = pos 0

abbrev pub VASE_ON_PILLOW : ℤ
VASE_ON_PILLOW = pos 1

abbrev pub VASE_BROKEN : ℤ
VASE_BROKEN = pos 2

abbrev pub VASE_BREAKING : ℤ
VASE_BREAKING = pos 3
