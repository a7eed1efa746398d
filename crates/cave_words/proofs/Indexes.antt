-- Which meanings the rows of a word leave, and what lookups then find.
use Rattle.std.proofs.Common.{◌≡◌, ℕ, ◌+◌, ◌<◌, Bool, true, false, cond, ◌&&◌, List, [], ◌∷◌, ◌++◌}
use Rattle.std.proofs.Common.{length, take, Option, Some, None, option_map, option_and_then, find}
use Rattle.std.proofs.Common.{fold, bytes_eq, refl, sym, ap, ◌∙◌}
use Rattle.std.specs.Option.{option_or}
use Rattle.std.proofs.lemmas.List.{take_more}
use Rattle.std.specs.List.{slice_get}
use Rattle.std.proofs.lemmas.Option.{get_or_from_slice_get, slice_get_within}
use Rattle.std.proofs.lemmas.List.Sums.{fold_push}
use Rattle.std.proofs.lemmas.Slice.Eq.{bytes_eq-Decides}
use Rattle.data_rows.specs.Rows.{WordEntry}
use Rattle.cave_words.specs.Lexicon.{Index, meanings_in}
use Rattle.cave_words.specs.Meanings.{meaning_of, same_class, is_word, is_word_in, first_meaning}
use Rattle.cave_words.specs.Meanings.{meaning_in_class, with_in_class, with_meaning, with_row}
use Rattle.cave_words.specs.Meanings.{only_first, meanings_of}
use Rattle.cave_words.specs.Words.{word_of}
use Rattle.cave_words.specs.declared.meaning.Class.{Class}
use Rattle.cave_words.specs.declared.meaning.Class.TheVariants.{Motion, Object, Action, Special}
use Rattle.cave_words.specs.declared.meaning.Meaning.{Meaning}
use Rattle.cave_words.specs.declared.meanings.Meanings.{Meanings}

option_or-none : {X : Type 0} (o : Option X) → option_or o None ≡ o
option_or-none None = refl
option_or-none (Some x) = refl

first-with_in_class : (class : Class) (m : Meaning) (known : Meanings)
    → (with_in_class class m known).first ≡ known.first
first-with_in_class Motion m known = refl
first-with_in_class Object m known = refl
first-with_in_class Action m known = refl
first-with_in_class Special m known = refl

-- the first meaning stays the first
first-with_meaning : (known : Option Meanings) (m : Meaning)
    → Some (with_meaning known m).first
    ≡ option_or (option_map (λ (k : Meanings). k.first) known) (Some m)
unfolding with_meaning
first-with_meaning None m = ap Some (first-with_in_class m.class m (only_first m))
first-with_meaning (Some known) m = ap Some (first-with_in_class m.class m known)

in_class-with_in_class : (class of_new : Class) (m : Meaning) (known : Meanings)
    → meaning_in_class class (with_in_class of_new m known)
    ≡ option_or (meaning_in_class class known) (cond (same_class of_new class) (Some m) None)
in_class-with_in_class Motion Motion m known = refl
in_class-with_in_class Object Object m known = refl
in_class-with_in_class Action Action m known = refl
in_class-with_in_class Special Special m known = refl
in_class-with_in_class _ _ m known = sym (option_or-none _)

in_class-only_first : (class : Class) (m : Meaning) → meaning_in_class class (only_first m) ≡ None
in_class-only_first Motion m = refl
in_class-only_first Object m = refl
in_class-only_first Action m = refl
in_class-only_first Special m = refl

-- so does the first meaning in a class
in_class-with_meaning : (class : Class) (known : Option Meanings) (m : Meaning)
    → meaning_in_class class (with_meaning known m)
    ≡ option_or (option_and_then (meaning_in_class class) known)
    (cond (same_class m.class class) (Some m) None)
unfolding with_meaning
in_class-with_meaning class None m =
    in_class-with_in_class class m.class m (only_first m)
    ∙ ap (λ (known : Option Meaning).
    option_or known (cond (same_class m.class class) (Some m) None))
    (in_class-only_first class m)
in_class-with_meaning class (Some known) m = in_class-with_in_class class m.class m known

option_or-assoc : {X : Type 0} (o p q : Option X)
    → option_or (option_or o p) q ≡ option_or o (option_or p q)
option_or-assoc None p q = refl
option_or-assoc (Some x) p q = refl

option_or-cond : {X : Type 0} (test : Bool) (x : X) (later : Option X)
    → option_or (cond test (Some x) None) later ≡ cond test (Some x) later
option_or-cond true x later = refl
option_or-cond false x later = refl

option_map-cond : (test : Bool) (row : WordEntry) (later : Option WordEntry)
    → option_map (λ (r : WordEntry). meaning_of r.number) (cond test (Some row) later)
    ≡ cond test (Some (meaning_of row.number))
    (option_map (λ (r : WordEntry). meaning_of r.number) later)
option_map-cond true row later = refl
option_map-cond false row later = refl

first_meaning-cons : (test : WordEntry → Bool) (row : WordEntry) (rows : List WordEntry)
    → first_meaning test (row ∷ rows)
    ≡ cond (test row) (Some (meaning_of row.number)) (first_meaning test rows)
first_meaning-cons test row rows = option_map-cond (test row) row (find test rows)

first_step : (hit : Bool) (known : Option Meanings) (m : Meaning) (later : Option Meaning)
    → option_or
    (option_map (λ (k : Meanings). k.first) (cond hit (Some (with_meaning known m)) known))
    later
    ≡ option_or (option_map (λ (k : Meanings). k.first) known) (cond hit (Some m) later)
first_step true known m later =
    ap (λ (o : Option Meaning). option_or o later) (first-with_meaning known m)
    ∙ option_or-assoc (option_map (λ (k : Meanings). k.first) known) (Some m) later
first_step false known m later = refl

class_step : (hit : Bool) (class : Class) (known : Option Meanings) (m : Meaning)
    (later : Option Meaning)
    → option_or
    (option_and_then (meaning_in_class class) (cond hit (Some (with_meaning known m)) known))
    later
    ≡ option_or (option_and_then (meaning_in_class class) known)
    (cond (hit && same_class m.class class) (Some m) later)
class_step true class known m later =
    ap (λ (o : Option Meaning). option_or o later) (in_class-with_meaning class known m)
    ∙ option_or-assoc (option_and_then (meaning_in_class class) known)
    (cond (same_class m.class class) (Some m) None) later
    ∙ ap (option_or (option_and_then (meaning_in_class class) known))
    (option_or-cond (same_class m.class class) m later)
class_step false class known m later = refl

first-meanings_from : (letters : ℕ) (word : List ℕ) (rows : List WordEntry)
    (known : Option Meanings)
    → option_map (λ (k : Meanings). k.first) (fold (with_row letters word) known rows)
    ≡ option_or (option_map (λ (k : Meanings). k.first) known)
    (first_meaning (is_word letters word) rows)
first-meanings_from letters word [] known = sym (option_or-none _)
first-meanings_from letters word (row ∷ rows) known =
    first-meanings_from letters word rows (with_row letters word known row)
    ∙ first_step (is_word letters word row) known (meaning_of row.number)
    (first_meaning (is_word letters word) rows)
    ∙ ap (option_or (option_map (λ (k : Meanings). k.first) known))
    (sym (first_meaning-cons (is_word letters word) row rows))

in_class-meanings_from : (letters : ℕ) (word : List ℕ) (class : Class) (rows : List WordEntry)
    (known : Option Meanings)
    → option_and_then (meaning_in_class class) (fold (with_row letters word) known rows)
    ≡ option_or (option_and_then (meaning_in_class class) known)
    (first_meaning (is_word_in letters word class) rows)
in_class-meanings_from letters word class [] known = sym (option_or-none _)
in_class-meanings_from letters word class (row ∷ rows) known =
    in_class-meanings_from letters word class rows (with_row letters word known row)
    ∙ class_step (is_word letters word row) class known (meaning_of row.number)
    (first_meaning (is_word_in letters word class) rows)
    ∙ ap (option_or (option_and_then (meaning_in_class class) known))
    (sym (first_meaning-cons (is_word_in letters word class) row rows))

-- the first meaning that is kept is the first row's
pub first-meanings_of : (letters : ℕ) (rows : List WordEntry) (word : List ℕ)
    → option_map (λ (k : Meanings). k.first) (meanings_of letters rows word)
    ≡ first_meaning (is_word letters word) rows
unfolding meanings_of
first-meanings_of letters rows word = first-meanings_from letters word rows None

-- the first meaning that is kept in a class is that of the first row of the class
pub in_class-meanings_of : (letters : ℕ) (rows : List WordEntry) (word : List ℕ) (class : Class)
    → option_and_then (meaning_in_class class) (meanings_of letters rows word)
    ≡ first_meaning (is_word_in letters word class) rows
unfolding meanings_of
in_class-meanings_of letters rows word class = in_class-meanings_from letters word class rows None

meanings_of_more : (letters i : ℕ) (rows : List WordEntry) (row : WordEntry) (word : List ℕ)
    → slice_get rows i ≡ Some row
    → meanings_of letters (take (i + 1) rows) word
    ≡ with_row letters word (meanings_of letters (take i rows) word) row
unfolding meanings_of
meanings_of_more letters i rows row word is =
    let within : i < length rows = slice_get_within rows i row is in
    let last : take (i + 1) rows ≡ take i rows ++ row ∷ [] = take_more rows i row within
    ∙ ap (λ (r : WordEntry). take i rows ++ r ∷ []) (get_or_from_slice_get rows i row row is) in
    rw last (fold_push (with_row letters word) None (take i rows) row)

known_step : (hit : Bool) (key word : List ℕ) (m : Meaning) (old : Index) → bytes_eq key word ≡ hit
    → cond hit (Some (with_meaning (meanings_in old key) m)) (meanings_in old word)
    ≡ cond hit (Some (with_meaning (meanings_in old word) m)) (meanings_in old word)
known_step true key word m old is =
    ap (λ (w : List ℕ). Some (with_meaning (meanings_in old w) m))
    ((bytes_eq-Decides key word).0 is)
known_step false key word m old is = refl

-- a lookup after one more row
pub index_more : (letters i : ℕ) (rows : List WordEntry) (row : WordEntry) (old new : Index)
    → slice_get rows i ≡ Some row
    → ((word : List ℕ) → meanings_in old word ≡ meanings_of letters (take i rows) word)
    → ((word : List ℕ)
    → meanings_in new word
    ≡ cond (bytes_eq (word_of letters row.word) word)
    (Some (with_meaning (meanings_in old (word_of letters row.word)) (meaning_of row.number)))
    (meanings_in old word))
    → (word : List ℕ) → meanings_in new word ≡ meanings_of letters (take (i + 1) rows) word
index_more letters i rows row old new is before after word =
    after word
    ∙ known_step (is_word letters word row) (word_of letters row.word) word (meaning_of row.number)
    old refl
    ∙ ap (λ (known : Option Meanings). with_row letters word known row) (before word)
    ∙ sym (meanings_of_more letters i rows row word is)
