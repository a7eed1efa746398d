-- The random stream of a play.
use Rattle.std.specs.Prelude.{ℕ, ◌+◌, ◌*◌, ◌/◌, ◌%◌, Bool, nat_lt}

-- how many numbers the stream goes through
abbrev pub STREAM_SIZE : ℕ
STREAM_SIZE = 1048576

-- the most numbers among which one is drawn: a number of the stream fits this many times into 32
-- bits
abbrev pub max_choices : ℕ
max_choices = 4095

-- by what a number of the stream is multiplied to make the next one
abbrev pub MULTIPLIER : ℕ
MULTIPLIER = 1093

-- what is then added
abbrev pub INCREMENT : ℕ
INCREMENT = 221587

abbrev pub stream_of_seed : ℕ → ℕ
stream_of_seed seed = seed % STREAM_SIZE

abbrev pub number_drawn : ℕ → ℕ → ℕ
number_drawn n x = n * x / STREAM_SIZE

abbrev pub next : ℕ → ℕ
next x = (MULTIPLIER * x + INCREMENT) % STREAM_SIZE

-- if the stream is at x, what happens in p of 100 cases happens
abbrev pub pct : ℕ → ℕ → Bool
pct p x = nat_lt (number_drawn 100 x) p
