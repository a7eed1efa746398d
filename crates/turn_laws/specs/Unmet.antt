-- What no game reaches, although definitions have a line for it.
use Rattle.std.specs.Prelude.{◌≡◌, ℕ, true, List, Option, Some, is_some, unwrap_or}
use Rattle.base_lines.specs.LogLine.{log_line}
use Rattle.base_lines.specs.declared.log_line.LogLine.TheVariants as kind
use Rattle.cave_data.specs.CaveView.{CaveView}
use Rattle.cave_data.specs.Reads.{Reads}
use Rattle.cave_words.specs.Meanings.{meaning}
use Rattle.cave_words.specs.Named.{object_named}
use Rattle.cave_words.specs.Words.{words_of}
use Rattle.cave_words.specs.declared.meaning.Class.TheVariants as class
use Rattle.cave_words.specs.declared.meaning.Meaning.{Meaning}
use Rattle.cave_words.specs.declared.named.Named.{Named}
use Rattle.cave_world.specs.Called.{or_no_object}

-- input has a first word, so no command is without one
abbrev pub InputHasAWord : Type 0
InputHasAWord =
    (cave : CaveView) (line : List ℕ) → log_line line ≡ kind.Input
    → is_some (words_of cave.letters line).first ≡ true

-- a number that may name an object does: it isn't above the last, so it is taken as it is
abbrev pub NamesAnObject : Option ℕ → Type 0
NamesAnObject number = or_no_object number ≡ unwrap_or number 0

-- in a cave that was read, neither a word that is said nor a name of a rule is that of an object
-- above the last
pub record WordsNameObjects (cave : CaveView) : Type 0 where
  pub said : (word : List ℕ) (m : Meaning) → meaning cave word ≡ Some m → m.class ≡ class.Object
      → NamesAnObject (Some m.number)
  pub named : (name : Named) → NamesAnObject (object_named cave name)

abbrev pub NoObjectIsAbove : Type 0
NoObjectIsAbove =
    (database bindings : List ℕ) (cave : CaveView) → Reads database bindings cave
    → WordsNameObjects cave
