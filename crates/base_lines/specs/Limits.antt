-- The limits of what users hand in. Each number stands here, and in no other definition.
use Rattle.std.specs.Prelude.{ℕ}

-- the most bytes of an input: a database, its bindings, a log, a script of edits
abbrev pub MAX_INPUT_BYTES : ℕ
MAX_INPUT_BYTES = 1048576

-- the most bytes of a line of a log
abbrev pub MAX_LINE_BYTES : ℕ
MAX_LINE_BYTES = 255

-- the most lines of a log
abbrev pub MAX_LOG_LINES : ℕ
MAX_LOG_LINES = 65535

-- the greatest seed
abbrev pub MAX_SEED : ℕ
MAX_SEED = 2147483647

-- the greatest distance of checkpoints, in lines
abbrev pub MAX_EVERY : ℕ
MAX_EVERY = 10000

-- the most digits of a number in a log, in a script and on the command line
abbrev pub MAX_DIGITS : ℕ
MAX_DIGITS = 10

-- what a number in a script counts as if its digits write a greater one
abbrev pub max_script_number : ℕ
max_script_number = 4294967295
