-- The magic words that count by their numbers.
use Rattle.std.specs.Prelude.{ℕ, Option, option_map, unwrap_or, List}
use Rattle.cave_data.specs.CaveView.{CaveView}
use Rattle.cave_words.specs.Meanings.{meaning_in}
use Rattle.cave_words.specs.declared.meaning.Class.TheVariants.{Special}
use Rattle.cave_words.specs.declared.meaning.Meaning.{Meaning}

-- the number of a meaning, or 0
abbrev pub number_or_none : Option Meaning → ℕ
number_or_none o = unwrap_or (option_map (λ meaning. meaning.number) o) 0

-- the number of a word among the special words; 0 if it isn't one of them
unfoldable pub special : CaveView → List ℕ → ℕ
special cave word = number_or_none (meaning_in cave word Special)
