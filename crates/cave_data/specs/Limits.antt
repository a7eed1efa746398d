-- The most rows that a section of a database may have.
use Rattle.std.specs.Prelude.{ℕ}

-- the most ways out of places
abbrev pub MAX_WAYS : ℕ
MAX_WAYS = 2000

-- the most words
abbrev pub MAX_WORDS : ℕ
MAX_WORDS = 1000

-- the most classes
abbrev pub MAX_CLASSES : ℕ
MAX_CLASSES = 50
