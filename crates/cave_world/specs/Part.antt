-- What a turn prints.
use Rattle.cave_world.specs.declared.part.Part.{Part}

-- what fills the places of parts that aren't printed
abbrev pub no_part : Part
no_part = Part.Message 0
