use Rattle.std.proofs.Common.{◌≡◌, ℕ, List, map, get_or, ap, ◌∙◌, refl, Option, None, option_map}
use Rattle.std.proofs.Common.{option_and_then}
use Rattle.cave_data.specs.CaveView.{CaveView}
use Rattle.cave_words.proofs.Indexes.{first-meanings_of, in_class-meanings_of}
use Rattle.cave_words.specs.Lexicon.{Index, LexiconView, IsIndexOf, meanings_in, IsLexiconOf}
use Rattle.cave_words.specs.Lexicon.{find_word, find_in_class, found_object}
use Rattle.cave_words.specs.Meanings.{meaning, meaning_in, meaning_in_class}
use Rattle.cave_words.specs.Named.{name_number, object_of_word, object_named}
use Rattle.cave_words.specs.Words.{word_of, NAME_LETTERS}
use Rattle.cave_words.specs.declared.meaning.Class.{Class}
use Rattle.cave_words.specs.declared.meaning.Class.TheVariants.{Object}
use Rattle.cave_words.specs.declared.meaning.Meaning.{Meaning}
use Rattle.cave_words.specs.declared.meanings.Meanings.{Meanings}
use Rattle.cave_words.specs.declared.named.Named.{Named}
use Rattle.cave_words.specs.declared.named.TheConstants.{EACH_NAME}

pub finds : (cave : CaveView) (lexicon : LexiconView) (word : List ℕ)
    → IsLexiconOf cave lexicon → find_word lexicon word ≡ meaning cave word
finds cave lexicon word is = is.finds word

pub finds_in : (cave : CaveView) (lexicon : LexiconView) (word : List ℕ) (class : Class)
    → IsLexiconOf cave lexicon → find_in_class lexicon word class ≡ meaning_in cave word class
finds_in cave lexicon word class is = is.finds_in word class

pub found_object_means : (cave : CaveView) (lexicon : LexiconView) (name : Named)
    → IsLexiconOf cave lexicon → found_object lexicon name ≡ object_named cave name
found_object_means cave lexicon name is = is.finds_objects name

-- the first object of a word of five letters is the object that the word names
pub object_of_word_means : (cave : CaveView) (index : Index) (written : List ℕ)
    → IsIndexOf NAME_LETTERS cave.words index
    → option_map (λ (m : Meaning). m.number)
    (option_and_then (meaning_in_class Object) (meanings_in index (word_of NAME_LETTERS written)))
    ≡ object_of_word cave written
unfolding object_of_word
object_of_word_means cave index written is =
    ap (λ known. option_map (λ (m : Meaning). m.number)
    (option_and_then (meaning_in_class Object) known)) (is (word_of NAME_LETTERS written))
    ∙ ap (option_map (λ (m : Meaning). m.number))
    (in_class-meanings_of NAME_LETTERS cave.words (word_of NAME_LETTERS written) Object)

-- the object of each name is at the number of the name
at_number : {K : Type 0} (f : Named → K) (d : K) (n : Named)
    → get_or (map f EACH_NAME) (name_number n) d ≡ f n
at_number f d Named.Keys = refl
at_number f d _ = refl

-- lookups in what is kept of the rows are those of the cave
pub lexicon_of : (cave : CaveView) (lexicon : LexiconView) → lexicon.letters ≡ cave.letters
    → IsIndexOf cave.letters cave.words lexicon.words
    → lexicon.names ≡ map (object_named cave) EACH_NAME
    → IsLexiconOf cave lexicon
unfolding find_word find_in_class meaning meaning_in
lexicon_of cave lexicon letters words names = record {
  letters = letters;
  finds = λ word. ap (option_map (λ (k : Meanings). k.first)) (words word)
      ∙ first-meanings_of cave.letters cave.words word;
  finds_in = λ word class. ap (option_and_then (meaning_in_class class)) (words word)
      ∙ in_class-meanings_of cave.letters cave.words word class;
  finds_objects = λ n. ap (λ (objects : List (Option ℕ)). get_or objects (name_number n) None) names
      ∙ at_number (object_named cave) None n;
}
