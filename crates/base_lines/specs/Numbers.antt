-- The last numbers of what a cave numbers. Each stands here, and in no other definition.
use Rattle.std.specs.Prelude.{ℕ}

-- the last place
abbrev pub LAST_PLACE : ℕ
LAST_PLACE = 300

-- the last object
abbrev pub LAST_OBJECT : ℕ
LAST_OBJECT = 100

-- the last object that has texts, which are its name and what is seen of it
abbrev pub LAST_NAMED : ℕ
LAST_NAMED = 99

-- the last prop of an object that has a text
abbrev pub LAST_PROP : ℕ
LAST_PROP = 99

-- the last action, which is a word of the player
abbrev pub LAST_ACTION : ℕ
LAST_ACTION = 99

-- the last hint
abbrev pub LAST_HINT : ℕ
LAST_HINT = 20

-- the last message
abbrev pub LAST_MESSAGE : ℕ
LAST_MESSAGE = 499
