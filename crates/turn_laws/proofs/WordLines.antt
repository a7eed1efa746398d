-- Input has a word, and words of a cave that was read name objects that exist.
use Rattle.std.specs.List.{filter_map}
use Rattle.base_lines.proofs.LogLines.{IsLogLine-log_line}
use Rattle.std.proofs.Common.{◌≡◌, ◌+◌, ◌∙◌, ◌∷◌, ◌≤◌, ℕ, Bool, true, false, List, []}
use Rattle.std.proofs.Common.{refl, sym, subst, ap, arith, inl, inr}
use Rattle.std.proofs.lemmas.Bool.{false≢true, true≢false}
use Rattle.std.proofs.lemmas.Bool.Decides.{nat_tests}
use Rattle.std.specs.Prelude.{◌&&◌, ◌/◌, if◌then◌else◌, Option, Some, None, find, is_some, nat_le}
use Rattle.std.specs.Prelude.{nat_lt, option_and_then, option_map}
use Rattle.base_lines.specs.Bytes.{after_prefix, is_all_blank, is_blank, is_nonblank, prefix_while}
use Rattle.base_lines.specs.LogLine.{IsLogLine}
use Rattle.base_lines.specs.declared.log_line.LogLine.TheVariants as kind
use Rattle.cave_words.specs.Meanings.{class_of_number, is_word, is_word_in, meaning, meaning_of}
use Rattle.cave_words.specs.Meanings.{same_class}
use Rattle.cave_words.specs.Named.{is_second, next_object, object_named, object_of_word}
use Rattle.cave_words.specs.Named.{word_of_name}
use Rattle.cave_words.specs.Words.{NAME_LETTERS, first_word_of, some_run, word_of, words_of}
use Rattle.cave_words.specs.declared.meaning.Class.TheVariants as class
use Rattle.cave_words.specs.declared.meaning.Meaning.{Meaning}
use Rattle.data_rows.specs.DatabaseGrammar.{HasRows, blank_line, database_ends, row_line}
use Rattle.data_rows.specs.DatabaseGrammar.{section_ends, section_opens}
use Rattle.data_rows.specs.RowGrammar.{IsWordNumber, in_4}
use Rattle.data_rows.specs.Rows.{Entry, WordEntry}
use Rattle.data_rows.specs.SectionRows.{word_entry_of}
use Rattle.data_rows.specs.declared.position.Position.{Position}
use Rattle.turn_laws.specs.Unmet.{InputHasAWord, NamesAnObject, NoObjectIsAbove}

-- what holds of either of two holds of the one that is chosen
pub choose : {A : Type 0} (Q : A → Type 0) (b : Bool) (x y : A) → (b ≡ true → Q x)
    → (b ≡ false → Q y)
    → Q (if b then x else y)
choose Q true x y f g = f refl
choose Q false x y f g = g refl

second_holds : (a b : Bool) → (a && b) ≡ true → b ≡ true
second_holds true b h = h
second_holds false b h = absurd (false≢true h)

-- bytes that aren't all blanks have a run of nonblanks
has_run : (line : List ℕ) → is_all_blank line ≡ false → is_some (first_word_of line) ≡ true
unfolding first_word_of
has_run [] some = absurd (true≢false some)
has_run (byte ∷ bytes) some =
    choose (λ (rest : List ℕ). is_some (some_run (prefix_while is_nonblank rest)) ≡ true)
    (is_blank byte) (after_prefix is_blank bytes) (byte ∷ bytes)
    (λ blank. has_run bytes (rw blank at some)) (λ other. rw other)

mapped : {X Y : Type 0} (f : X → Y) (o : Option X) → is_some o ≡ true
    → is_some (option_map f o) ≡ true
mapped f None some = some
mapped f (Some x) some = refl

not_blank : (line : List ℕ) → IsLogLine line kind.Input → is_all_blank line ≡ false
not_blank line is = by_test (is_all_blank line) refl
  where
    by_test : (b : Bool) → is_all_blank line ≡ b → b ≡ false
    by_test true blank = absurd (is.1 blank)
    by_test false other = refl

pub input_has_a_word : InputHasAWord
unfolding words_of
input_has_a_word cave line input =
    mapped _ _ (has_run line (not_blank line
    (subst (IsLogLine line) input (IsLogLine-log_line line))))

-- the row of a word that is found passes the test, and is in range
abbrev pub Fits : (WordEntry → Bool) → Option WordEntry → Type 0
Fits test None = Unit {0}
Fits test (Some entry) = IsWordNumber entry.number × (test entry ≡ true)

pub found_within : {position : Position} {ls : List (List ℕ)} {rows : List Entry}
    (test : WordEntry → Bool) → HasRows position ls rows
    → Fits test (find test (filter_map word_entry_of rows))
found_within test (blank_line blank rest) = found_within test rest
found_within test (section_opens opens rest) = found_within test rest
found_within test (section_ends ends rest) = found_within test rest
found_within test (database_ends ends) = tt
found_within test (row_line (in_4 {entry = entry} row) rest) =
    choose (Fits test) (test entry) (Some entry) _ (λ passes. (row.number_in_range, passes))
    (λ _. found_within test rest)
found_within test (row_line _ rest) = found_within test rest

-- the number of an object's word is that of an object
object_within : (n : ℕ) → IsWordNumber n → same_class (class_of_number n) class.Object ≡ true
    → (meaning_of n).number ≤ 100
object_within n (inl motion) same =
    let none : n / 1000 ≡ 0 = omega arith in absurd (false≢true (rw none at same))
object_within n (inr (inl object)) same = omega arith
object_within n (inr (inr (inl action))) same =
    let two : n / 1000 ≡ 2 = omega arith in absurd (false≢true (rw two at same))
object_within n (inr (inr (inr special))) same =
    let three : n / 1000 ≡ 3 = omega arith in absurd (false≢true (rw three at same))

said_within : (test : WordEntry → Bool) (o : Option WordEntry) (m : Meaning)
    → option_map (λ (row : WordEntry). meaning_of row.number) o ≡ Some m → Fits test o
    → m.class ≡ class.Object → m.number ≤ 100
said_within test None m is fits object = absurd (false≢true (ap is_some is))
said_within test (Some entry) m is fits object =
    let same : meaning_of entry.number ≡ m = cc in
    subst (λ (x : Meaning). x.number ≤ 100) same
    (object_within entry.number fits.0
    (ap (λ c. same_class c class.Object) (ap (λ (x : Meaning). x.class) same ∙ object)))

-- a number up to the last object's is taken as it is
taken : (n : ℕ) → n ≤ 100 → NamesAnObject (Some n)
taken n few =
    choose (λ (x : ℕ). x ≡ n) (nat_le n 100) n 0 (λ _. refl)
    (λ above. grind (arith, nat_tests, above))

named_taken : (test : WordEntry → Bool) (o : Option WordEntry) → Fits test o
    → ((row : WordEntry) → test row ≡ true
    → same_class (class_of_number row.number) class.Object ≡ true)
    → NamesAnObject
    (option_map (λ (m : Meaning). m.number)
    (option_map (λ (row : WordEntry). meaning_of row.number) o))
named_taken test None fits object = refl
named_taken test (Some row) fits object =
    taken _ (object_within row.number fits.0 (object row fits.1))

-- nor is the object after one above the last
next_taken : (o : Option ℕ) → NamesAnObject (option_and_then next_object o)
next_taken None = refl
next_taken (Some n) =
    choose NamesAnObject (nat_lt n 100) (Some (n + 1)) None
    (λ less. taken (n + 1) (grind (arith, nat_tests, less))) (λ _. refl)

pub no_object_is_above : NoObjectIsAbove
unfolding meaning object_named object_of_word
no_object_is_above database bindings cave reads =
    let fits = λ (test : WordEntry → Bool).
    subst (λ (rows : List WordEntry). Fits test (find test rows))
    (sym reads.described.holds.words)
    (found_within test reads.right.is_database.has_rows) in
    record {
      said = λ word m is object.
          let test = is_word cave.letters word in
          taken m.number (said_within test (find test cave.words) m is (fits test) object);
      named = λ name.
          let letters = word_of NAME_LETTERS (word_of_name name) in
          let test = is_word_in NAME_LETTERS letters class.Object in
          choose NamesAnObject (is_second name) _ _
          (λ _. next_taken (object_of_word cave (word_of_name name)))
          (λ _. named_taken test (find test cave.words) (fits test)
          (λ row. second_holds (is_word NAME_LETTERS letters row) _));
    }
