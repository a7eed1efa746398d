-- Lines that begin with a word, and with a number after it.
use Rattle.std.proofs.Common.{◌≡◌, ℕ, Bool, true, false, cond, ◌&&◌, nat_lt, nat_le, min, List, []}
use Rattle.std.proofs.Common.{◌∷◌, ◌++◌, length, take, drop, Option, Some, None, unwrap_or}
use Rattle.std.proofs.Common.{bytes_eq, IsTrue, refl, sym, ap, subst, ◌∙◌, arith}
use Rattle.std.specs.List.{list_all}
use Rattle.std.proofs.lemmas.Bool.{and_parts}
use Rattle.std.proofs.lemmas.Bool.Decides.{nat_tests}
use Rattle.std.proofs.lemmas.List.{take-append-drop}
use Rattle.std.proofs.lemmas.Slice.Eq.{bytes_eq-Decides}
use Rattle.base_lines.specs.Bytes.{is_blank, is_digit, prefix_while, after_prefix, number_of}
use Rattle.replay_scripts.specs.Line.{IsNumbered, IsText, IsWord, is_word_line, number_after_word}
use Rattle.replay_scripts.specs.Line.{number_after_blank, number_and_rest, text_of_edit}
use Rattle.base_lines.proofs.Prefixes.{prefix_while-append-after_prefix, list_all-prefix_while}
use Rattle.replay_scripts.proofs.Prefixes.{NoDigitFirst, after_prefix-digits, prefix_while-digits}

pub not_true : (b : Bool) → ¬ IsTrue b → b ≡ false
not_true b untrue = by_value b refl untrue
  where
    by_value : (value : Bool) → b ≡ value → ¬ IsTrue b → b ≡ false
    by_value true is refuted = absurd (refuted is)
    by_value false is refuted = is

-- ---- what follows a number

pub first_of_text : (rest text : List ℕ) → IsText rest text → NoDigitFirst rest
first_of_text [] text is = tt
first_of_text (byte ∷ rest) text is = is.0

pub first_of_blanks : (rest : List ℕ) → IsTrue (list_all is_blank rest) → NoDigitFirst rest
first_of_blanks [] blank = tt
first_of_blanks (byte ∷ rest) blank = (and_parts (is_blank byte) (list_all is_blank rest) blank).0

pub text_of_edit-from_text : (rest text : List ℕ) → IsText rest text → text_of_edit rest ≡ Some text
text_of_edit-from_text [] text is = rw is refl
text_of_edit-from_text (byte ∷ rest) text is = let blank = is.0 in rw (blank, is.1) refl

pub IsText-from_text_in : (rest text : List ℕ) → text_of_edit rest ≡ Some text → IsText rest text
IsText-from_text_in [] text is = cc
IsText-from_text_in (byte ∷ rest) text is = split (is_blank byte) refl is
  where
    split : (blank : Bool) → is_blank byte ≡ blank → cond blank (Some rest) None ≡ Some text
        → IsTrue (is_blank byte) × (text ≡ rest)
    split true e h = let same : text ≡ rest = cc in (e, same)
    split false e h = cc

-- ---- words

take_word : (word rest : List ℕ) → take (length word) (word ++ rest) ≡ word
take_word [] rest = refl
take_word (byte ∷ word) rest = ap (λ xs. byte ∷ xs) (take_word word rest)

drop_word : (word rest : List ℕ) → drop (length word) (word ++ rest) ≡ rest
drop_word [] rest = refl
drop_word (byte ∷ word) rest = drop_word word rest

begins_with : (word rest : List ℕ) → bytes_eq (take (length word) (word ++ rest)) word ≡ true
begins_with word rest = rw (take_word word rest) ((bytes_eq-Decides word word).1 refl)

pub is_word_line-from_word : (word line : List ℕ) → IsWord word line → is_word_line word line ≡ true
unfolding is_word_line
is_word_line-from_word word line is =
    let parts = is.parts in
    let begins = begins_with word is.blanks in
    let rest = drop_word word is.blanks in
    let blank = is.all_blank in
    rw (parts, begins, rest, blank) refl

pub IsWord-from_is_word : (word line : List ℕ) → is_word_line word line ≡ true → IsWord word line
unfolding is_word_line
IsWord-from_is_word word line is =
    let both =
    and_parts (bytes_eq (take (length word) line) word)
    (list_all is_blank (drop (length word) line)) is in
    let front : take (length word) line ≡ word =
    (bytes_eq-Decides (take (length word) line) word).0 both.0 in
    record {
      blanks = drop (length word) line;
      parts = sym (subst (λ (xs : List ℕ). xs ++ drop (length word) line ≡ line) front
          (take-append-drop (length word) line));
      all_blank = both.1;
    }

-- ---- numbers

pub number_after-from_line : (word line : List ℕ) (number : ℕ) (rest : List ℕ)
    → IsNumbered word line number rest → NoDigitFirst rest
    → number_after_word word line ≡ Some (number, rest)
unfolding number_after_word
number_after-from_line word line number rest is first =
    let parts = is.parts in
    let begins = begins_with word (is.blank ∷ (is.digits ++ rest)) in
    let back = drop_word word (is.blank ∷ (is.digits ++ rest)) in
    let blank = is.is_blank_byte in
    let front = prefix_while-digits is.digits rest is.all_digits first in
    let after = after_prefix-digits is.digits rest is.all_digits first in
    let some : nat_lt 0 (length is.digits) ≡ true = grind (arith, nat_tests, is.some_digits) in
    let few : nat_le (length is.digits) 10 ≡ true = grind (arith, nat_tests, is.few_digits) in
    let value = is.value in
    rw (parts, begins, back, blank, front, after, some, few, value) refl

abbrev pub some_found : ℕ → List ℕ → Option (ℕ × List ℕ)
some_found number rest = Some (number, rest)

same_found : (number other : ℕ) (rest other_rest : List ℕ)
    → some_found number rest ≡ some_found other other_rest → (number ≡ other) × (rest ≡ other_rest)
same_found number other rest other_rest same =
    let found : Option (ℕ × List ℕ) → ℕ × List ℕ = λ o. unwrap_or o (number, rest) in
    (ap (λ o. (found o).0) same, ap (λ o. (found o).1) same)

numbered_by_digits : (word line : List ℕ) (blank number : ℕ) (bytes rest : List ℕ)
    → line ≡ word ++ blank ∷ bytes → IsTrue (is_blank blank)
    → number_and_rest (prefix_while is_digit bytes) (after_prefix is_digit bytes)
    ≡ Some (number, rest) → IsNumbered word line number rest
numbered_by_digits word line blank number bytes rest parts is_blank_byte is = split _ refl is
  where
    split : (fits : Bool)
        → (nat_lt 0 (length (prefix_while is_digit bytes))
        && nat_le (length (prefix_while is_digit bytes)) 10) ≡ fits
        → cond {A = Option (ℕ × List ℕ)} fits
        (Some (
          min (number_of (prefix_while is_digit bytes)) 4294967295,
          after_prefix is_digit bytes,
        )) None ≡ Some (number, rest)
        → IsNumbered word line number rest
    split false e h = cc
    split true e h =
        let both =
        and_parts (nat_lt 0 (length (prefix_while is_digit bytes)))
        (nat_le (length (prefix_while is_digit bytes)) 10) e in
        let same =
        same_found (min (number_of (prefix_while is_digit bytes)) 4294967295) number
        (after_prefix is_digit bytes) rest h in
        let after = same.1 in
        record {
          blank = blank;
          digits = prefix_while is_digit bytes;
          parts = parts
              ∙ ap (λ xs. word ++ blank ∷ xs)
              (sym (prefix_while-append-after_prefix is_digit bytes)
              ∙ ap (λ xs. prefix_while is_digit bytes ++ xs) after);
          is_blank_byte = is_blank_byte;
          all_digits = list_all-prefix_while is_digit bytes;
          some_digits = grind (arith, nat_tests, both.0);
          few_digits = grind (arith, nat_tests, both.1);
          value = sym same.0;
        }

numbered_by_blank : (word line tail : List ℕ) (number : ℕ) (rest : List ℕ) → line ≡ word ++ tail
    → number_after_blank tail ≡ Some (number, rest) → IsNumbered word line number rest
numbered_by_blank word line [] number rest parts is = cc
numbered_by_blank word line (byte ∷ bytes) number rest parts is = split (is_blank byte) refl is
  where
    split : (blank : Bool) → is_blank byte ≡ blank
        → cond blank (number_and_rest (prefix_while is_digit bytes) (after_prefix is_digit bytes))
        None ≡ Some (number, rest) → IsNumbered word line number rest
    split false e h = cc
    split true e h = numbered_by_digits word line byte number bytes rest parts e h

pub IsNumbered-from_number_after : (word line : List ℕ) (number : ℕ) (rest : List ℕ)
    → number_after_word word line ≡ Some (number, rest) → IsNumbered word line number rest
unfolding number_after_word
IsNumbered-from_number_after word line number rest is =
    split (bytes_eq (take (length word) line) word) refl is
  where
    split : (begins : Bool) → bytes_eq (take (length word) line) word ≡ begins
        → cond begins (number_after_blank (drop (length word) line)) None ≡ Some (number, rest)
        → IsNumbered word line number rest
    split false e h = cc
    split true e h =
        let front : take (length word) line ≡ word =
        (bytes_eq-Decides (take (length word) line) word).0 e in
        let parts =
        sym (subst (λ (xs : List ℕ). xs ++ drop (length word) line ≡ line) front
        (take-append-drop (length word) line)) in
        numbered_by_blank word line (drop (length word) line) number rest parts h
