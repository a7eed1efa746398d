-- What a word that names an object says.
use Rattle.std.specs.Prelude.{ℕ, Bool, false, ◌==◌, List, [], ◌∷◌, Option, Some, None}
use Rattle.turn_scene.specs.Scene.{is_called}
use Rattle.turn_scene.specs.Props.{PLANT_SMALL}
use Rattle.cave_world.specs.declared.tables.Table.TheVariants as table
use Rattle.turn_scene.specs.Rows.{Deed, Test, Thing, answer_row, always, otherwise_row, Act}
use Rattle.turn_scene.specs.Rows.{Row, act_by_table}
use Rattle.turn_scene.specs.Tests.{the, either, both, carried, near, is_here, other_prop, dwarf}
use Rattle.turn_scene.specs.Tests.{in_bottle, in_lake, at_one_of, at_from_to}
use Rattle.cave_verbs.specs.Verbs.{verb_number}
use Rattle.cave_verbs.specs.declared.verb.Verb.{Verb}
use Rattle.cave_words.specs.declared.named.Named.{Named}
use Rattle.cave_world.specs.Motions.{motion_number}
use Rattle.cave_world.specs.declared.motion.Motion.{Motion}
use Rattle.cave_world.specs.declared.dwarves.Knife.{Knife}
use Rattle.cave_turn.specs.declared.object_words.NamedObject.{NamedObject}
use Rattle.cave_turn.specs.declared.object_words.ObjectWord.{ObjectWord}
use Rattle.cave_turn.specs.declared.object_words.ObjectWord.TheVariants.{Is, Leads, Knives, Unseen}

-- the object
abbrev pub object : Thing NamedObject
object d = d.about.object

abbrev pub word_names : Named → Test NamedObject
word_names n d = is_called d.cave d.about.object n

abbrev pub is_knife_at : ℕ → Knife → Bool
is_knife_at here (Knife.At place) = place == here
is_knife_at here _ = false

-- a knife was thrown here
abbrev pub is_knife_here : Test NamedObject
is_knife_here d = is_knife_at d.scene.state.trail.here d.scene.state.dwarves.knife

-- the verb is one that has rules
abbrev pub is_verb_of : Verb → Option ℕ → Bool
is_verb_of v None = false
is_verb_of v (Some number) = number == verb_number v

abbrev pub by_verb : Verb → Test NamedObject
by_verb v d = is_verb_of v d.about.verb

-- no word follows
abbrev pub alone : Test NamedObject
alone d = d.about.is_alone

-- the word is an object
abbrev pub object_meant : Thing NamedObject → Deed NamedObject → ObjectWord
object_meant t d = Is (t d)

-- the word is a motion
abbrev pub leads : Motion → Deed NamedObject → ObjectWord
leads m d = Leads (motion_number m)

-- what the word of an object says
abbrev pub object_word_rows : List (Row NamedObject ObjectWord)
object_word_rows =
    answer_row (either (is_here object) (carried object) ∷ []) (object_meant object)
    ∷ answer_row (word_names Named.Grate ∷ at_one_of (1 ∷ 4 ∷ 7 ∷ []) ∷ []) (leads Motion.Depression)
    ∷ answer_row (word_names Named.Grate ∷ at_from_to 10 14 ∷ []) (leads Motion.Entrance)
    ∷ answer_row (word_names Named.Dwarf ∷ dwarf ∷ []) (object_meant object)
    ∷ answer_row (either (both (in_bottle object) (near (the Named.Bottle))) (in_lake object) ∷ [])
    (object_meant object)
    ∷ answer_row (word_names Named.Plant ∷ is_here (the Named.SecondPlant)
    ∷ other_prop (the Named.SecondPlant) PLANT_SMALL ∷ []) (object_meant (the Named.SecondPlant))
    ∷ answer_row (word_names Named.Knife ∷ is_knife_here ∷ []) (always Knives)
    ∷ answer_row (word_names Named.Rod ∷ near (the Named.SecondRod) ∷ [])
    (object_meant (the Named.SecondRod))
    ∷ answer_row (either (by_verb Verb.Find) (by_verb Verb.Inventory) ∷ alone ∷ [])
    (object_meant object) ∷ []

unfoldable pub object_word : Deed NamedObject → Act ObjectWord
object_word d = act_by_table table.ObjectWord object_word_rows
    (otherwise_row [] (always Unseen)) d
