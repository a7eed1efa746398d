-- The numbers that the prop of an object may have.
use Rattle.std.specs.Prelude.{ℤ, pos, negsuc}

abbrev pub LOWEST_PROP : ℤ
LOWEST_PROP = negsuc 99

abbrev pub HIGHEST_PROP : ℤ
HIGHEST_PROP = pos 101
