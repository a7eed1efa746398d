-- The objects that the words of the rules name.
use Rattle.std.specs.Prelude.{ℕ, Option, Some, None, nat_le, if◌then◌else◌}
use Rattle.base_lines.specs.Numbers.{LAST_OBJECT}
use Rattle.cave_data.specs.CaveView.{CaveView}
use Rattle.cave_words.specs.Named.{object_named}
use Rattle.cave_words.specs.declared.named.Named.{Named}

abbrev pub or_no_object : Option ℕ → ℕ
or_no_object None = 0
or_no_object (Some object) = if nat_le object LAST_OBJECT then object else 0

-- the object that a word of the rules names
unfoldable pub object_called : CaveView → Named → ℕ
object_called cave name = or_no_object (object_named cave name)
