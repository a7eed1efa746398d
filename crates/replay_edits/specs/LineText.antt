-- A line of a log.
use Rattle.std.specs.Prelude.{ℕ, List}

-- the bytes of a line
pub record LineText : Type 0 where
  pub items : List ℕ

-- how long a line is at most that takes no memory of its own
abbrev pub MAX_SHORT_LINE : ℕ
MAX_SHORT_LINE = 14
