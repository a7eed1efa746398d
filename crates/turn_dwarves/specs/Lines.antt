-- What is printed about the dwarves and their knives.
use Rattle.std.specs.Prelude.{ℕ, ◌==◌, List, [], ◌∷◌}
use Rattle.data_rows.specs.declared.role.Role.TheVariants as role
use Rattle.cave_world.specs.declared.part.NumberLine.TheVariants as line
use Rattle.cave_world.specs.declared.part.Part.TheVariants as part
use Rattle.cave_world.specs.Limits.{AWAKE}
use Rattle.turn_scene.specs.Rows.{Test, Effect, Row, plain_row, otherwise, by_table}
use Rattle.turn_scene.specs.Tests.{no, anger}
use Rattle.turn_scene.specs.Effects.{change, say, tell}
use Rattle.cave_world.specs.declared.tables.Table.TheVariants as table
use Rattle.turn_dwarves.specs.Band.{with_anger}
use Rattle.turn_dwarves.specs.declared.knives.Attack.{Attack}

-- n dwarves see the player
abbrev pub dwarves : ℕ → Test Attack
dwarves n d = d.about.dwarves == n

-- n knives were thrown
abbrev pub knives : ℕ → Test Attack
knives n d = d.about.knives == n

-- n of them hit
abbrev pub hits : ℕ → Test Attack
hits n d = d.about.hits == n

-- lines of the game's own
abbrev pub count_dwarves : Effect Attack
count_dwarves d = tell (part.Number line.DwarvesHere d.about.dwarves 0) d

abbrev pub count_knives : Effect Attack
count_knives d = tell (part.Number line.KnivesThrown d.about.knives 0) d

abbrev pub count_hits : Effect Attack
count_hits d = tell (part.Number line.KnivesHit d.about.hits 0) d

-- the line that says how many dwarves are here
unfoldable pub dwarf_rows : List (Row Attack (Unit {0}))
dwarf_rows =
    plain_row (dwarves 0 ∷ []) []
    ∷ plain_row (dwarves 1 ∷ []) (say role.DwarfOne ∷ [])
    ∷ otherwise (count_dwarves ∷ [])

-- how angry dwarves are after they threw knives for the first time
abbrev pub PROVOKED : ℕ
PROVOKED = 3

-- dwarves that threw knives for the first time are angrier from then on
unfoldable pub provoked_rows : List (Row Attack (Unit {0}))
provoked_rows =
    plain_row (no (knives 0) ∷ anger AWAKE ∷ []) (change (with_anger PROVOKED) ∷ [])
    ∷ []

-- what is said about the knives, and how many hit
unfoldable pub knife_rows : List (Row Attack (Unit {0}))
knife_rows =
    plain_row (knives 0 ∷ []) []
    ∷ plain_row (knives 1 ∷ no (hits 0) ∷ []) (say role.KnifeOne ∷ say role.HitOne ∷ [])
    ∷ plain_row (knives 1 ∷ []) (say role.KnifeOne ∷ say role.MissOne ∷ [])
    ∷ plain_row (hits 0 ∷ []) (count_knives ∷ say role.MissAll ∷ [])
    ∷ plain_row (hits 1 ∷ []) (count_knives ∷ say role.HitMany ∷ [])
    ∷ otherwise (count_knives ∷ count_hits ∷ [])

-- the dwarves, and then their knives
unfoldable pub tell_attack : List (Effect Attack)
tell_attack =
    by_table table.DwarvesHere dwarf_rows
    ∷ by_table table.Provoked provoked_rows
    ∷ by_table table.Knives knife_rows
    ∷ []
