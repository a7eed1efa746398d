-- A lexicon: what each word of a cave means, found by the word.
use Rattle.std.specs.Prelude.{◌≡◌, ℕ, List, slice_index_or, Option, None, option_map}
use Rattle.std.specs.Prelude.{option_and_then, bytes_eq}
use Rattle.cave_data.specs.CaveView.{CaveView}
use Rattle.cave_words.specs.Meanings.{meaning, meaning_in, meaning_in_class, meanings_of}
use Rattle.cave_words.specs.Named.{name_number, object_named}
use Rattle.cave_words.specs.declared.meaning.Class.{Class}
use Rattle.cave_words.specs.declared.meaning.Meaning.{Meaning}
use Rattle.cave_words.specs.declared.named.Named.{Named}
use Rattle.std.specs.Map.{lookup}
use Rattle.data_rows.specs.Rows.{WordEntry}
use Rattle.cave_words.specs.declared.meanings.Meanings.{Meanings}

-- words with their meanings
abbrev pub Index : Type 0
Index = List (List ℕ × Meanings)

abbrev pub meanings_in : Index → List ℕ → Option Meanings
meanings_in index word = lookup (bytes_eq word) index

-- the index says of each word what the rows say, if this many letters count
abbrev pub IsIndexOf : ℕ → List WordEntry → Index → Type 0
IsIndexOf letters rows index = (word : List ℕ)
    → meanings_in index word ≡ meanings_of letters rows word

-- a lexicon is the words with their meanings, and the objects of the names by their numbers
pub record LexiconView : Type 0 where
  pub letters : ℕ
  pub words : Index
  pub names : List (Option ℕ)

unfoldable pub find_word : LexiconView → List ℕ → Option Meaning
find_word lexicon word =
    option_map (λ meanings. meanings.first) (meanings_in lexicon.words word)

unfoldable pub find_in_class : LexiconView → List ℕ → Class → Option Meaning
find_in_class lexicon word class =
    option_and_then (meaning_in_class class) (meanings_in lexicon.words word)

abbrev pub found_object : LexiconView → Named → Option ℕ
found_object lexicon name = slice_index_or lexicon.names (name_number name) None

pub record IsLexiconOf (cave : CaveView) (lexicon : LexiconView) : Type 0 where
  pub letters : lexicon.letters ≡ cave.letters
  pub finds : (word : List ℕ) → find_word lexicon word ≡ meaning cave word
  pub finds_in : (word : List ℕ) (class : Class)
      → find_in_class lexicon word class ≡ meaning_in cave word class
  pub finds_objects : (name : Named) → found_object lexicon name ≡ object_named cave name
