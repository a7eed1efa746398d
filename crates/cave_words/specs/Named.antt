-- The objects that rules name by a word of the cave.
use Rattle.std.specs.Prelude.{ℕ, ◌+◌, Bool, true, false, nat_lt, if◌then◌else◌, List, [], ◌∷◌}
use Rattle.std.specs.Prelude.{codes, map, slice_index_or, Option, Some, None, option_map}
use Rattle.std.specs.Prelude.{option_and_then}
use denote.Enum.Declared.{tag_of}
use Rattle.cave_data.specs.CaveView.{CaveView}
use Rattle.cave_words.specs.Meanings.{first_meaning, is_word_in}
use Rattle.cave_words.specs.Words.{word_of, NAME_LETTERS}
use Rattle.cave_words.specs.declared.meaning.Class.TheVariants.{Object}
use Rattle.cave_words.specs.contracts.named.Named.{the_type}
use Rattle.cave_words.specs.declared.named.Named.{Named}
use Rattle.base_lines.specs.Numbers.{LAST_OBJECT}

-- each name with its word, in the order of their numbers
abbrev pub NAME_ROWS : List (Named × List ℕ)
NAME_ROWS =
    (Named.Keys, codes "KEYS") ∷ (Named.Lamp, codes "LAMP") ∷ (Named.Grate, codes "GRATE")
    ∷ (Named.Cage, codes "CAGE") ∷ (Named.Rod, codes "ROD") ∷ (Named.Steps, codes "STEPS")
    ∷ (Named.Bird, codes "BIRD") ∷ (Named.Door, codes "DOOR") ∷ (Named.Pillow, codes "PILLO")
    ∷ (Named.Snake, codes "SNAKE") ∷ (Named.Fissure, codes "FISSU") ∷ (Named.Tablet, codes "TABLE")
    ∷ (Named.Clam, codes "CLAM") ∷ (Named.Oyster, codes "OYSTE") ∷ (Named.Magazine, codes "MAGAZ")
    ∷ (Named.Dwarf, codes "DWARF") ∷ (Named.Knife, codes "KNIFE") ∷ (Named.Food, codes "FOOD")
    ∷ (Named.Bottle, codes "BOTTL") ∷ (Named.Water, codes "WATER") ∷ (Named.Oil, codes "OIL")
    ∷ (Named.Plant, codes "PLANT") ∷ (Named.Axe, codes "AXE") ∷ (Named.Mirror, codes "MIRRO")
    ∷ (Named.Dragon, codes "DRAGO") ∷ (Named.Chasm, codes "CHASM") ∷ (Named.Troll, codes "TROLL")
    ∷ (Named.Bear, codes "BEAR") ∷ (Named.Message, codes "MESSA") ∷ (Named.Vending, codes "VENDI")
    ∷ (Named.Batteries, codes "BATTE") ∷ (Named.Gold, codes "GOLD") ∷ (Named.Coins, codes "COINS")
    ∷ (Named.Chest, codes "CHEST") ∷ (Named.Eggs, codes "EGGS") ∷ (Named.Trident, codes "TRIDE")
    ∷ (Named.Vase, codes "VASE") ∷ (Named.Emerald, codes "EMERA") ∷ (Named.Pyramid, codes "PYRAM")
    ∷ (Named.Pearl, codes "PEARL") ∷ (Named.Rug, codes "RUG") ∷ (Named.Spices, codes "SPICE")
    ∷ (Named.Chain, codes "CHAIN") ∷ (Named.SecondRod, codes "ROD")
    ∷ (Named.SecondPlant, codes "PLANT") ∷ (Named.SecondTroll, codes "TROLL") ∷ []

unfoldable pub each_name : List Named
each_name = map (λ row. row.0) NAME_ROWS

abbrev pub NAME_COUNT : ℕ
NAME_COUNT = 46

-- its place among all, from 0, which is that of its variant
abbrev pub name_number : Named → ℕ
name_number n = tag_of the_type n

-- the object after the one that the word names
abbrev pub is_second : Named → Bool
is_second Named.SecondRod = true
is_second Named.SecondPlant = true
is_second Named.SecondTroll = true
is_second _ = false

unfoldable pub word_of_name : Named → List ℕ
word_of_name n = slice_index_or (map (λ row. row.1) NAME_ROWS) (name_number n) []

-- the object that a word names in a cave, by the word's first five letters
unfoldable pub object_of_word : CaveView → List ℕ → Option ℕ
object_of_word cave word =
    let object =
    first_meaning (is_word_in NAME_LETTERS (word_of NAME_LETTERS word) Object) cave.words in
    option_map (λ meaning. meaning.number) object

-- the next object, if its number is possible
abbrev pub next_object : ℕ → Option ℕ
next_object object = if nat_lt object LAST_OBJECT then Some (object + 1) else None

-- the object of a name, if its word names this object
abbrev pub object_by_name : Named → Option ℕ → Option ℕ
object_by_name name object = if is_second name then option_and_then next_object object else object

unfoldable pub object_named : CaveView → Named → Option ℕ
object_named cave name = object_by_name name (object_of_word cave (word_of_name name))
