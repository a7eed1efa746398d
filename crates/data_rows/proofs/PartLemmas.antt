-- The parts of a row, as their bytes define them, are what reading gives.
use Rattle.std.proofs.Common.{◌≡◌, ℕ, ◌≤◌, Bool, true, false, cond, not, ◌==◌, ◌&&◌, nat_lt, nat_le}
use Rattle.std.proofs.Common.{List, [], ◌∷◌, ◌++◌, length, Option, Some, None, option_map, IsTrue}
use Rattle.std.proofs.Common.{unwrap_or, refl, sym, ap, subst, ◌∙◌, arith}
use Rattle.std.specs.List.{list_all}
use Rattle.std.proofs.lemmas.Bool.{and_parts, eqb-true}
use Rattle.std.proofs.lemmas.Bool.Decides.{nat_tests}
use Rattle.std.proofs.lemmas.List.{append-nil}
use Rattle.base_lines.specs.Bytes.{is_blank, is_nonblank, is_all_blank, is_digit, number_of}
use Rattle.base_lines.specs.Bytes.{prefix_while}
use Rattle.base_lines.proofs.Prefixes.{prefix_while-append-after_prefix, list_all-prefix_while}
use Rattle.base_lines.proofs.Prefixes.{after_prefix-append, prefix_while-append}
use Rattle.data_rows.specs.declared.number.Number.{Number}
use Rattle.data_rows.specs.declared.number.Number.TheVariants.{Natural}
use Rattle.data_rows.specs.Fields.{after_blanks, field, after_field, is_numeral}
use Rattle.data_rows.specs.RowParts.{ends_field, negative, BeginsWithField, WritesNatural}
use Rattle.data_rows.specs.RowParts.{WritesNumber, unsigned, signed, BeginsWithNumber}
use Rattle.data_rows.specs.Fields.{natural, number_of_field, number_at}
use Rattle.data_rows.proofs.FieldLemmas.{none_ahead, field-blank, after_field-blank}

-- ---- fields

nonblank : (byte : ℕ) → IsTrue (is_nonblank byte) → is_blank byte ≡ false
nonblank byte is = at (is_blank byte) is where
  at : (b : Bool) → not b ≡ true → b ≡ false
  at true e = cc
  at false e = refl

no_field_left : (rest : List ℕ) → IsTrue (ends_field rest) → field rest ≡ []
no_field_left [] ended = refl
no_field_left (byte ∷ rest) ended = field-blank byte rest ended

all_left : (rest : List ℕ) → IsTrue (ends_field rest) → after_field rest ≡ rest
all_left [] ended = refl
all_left (byte ∷ rest) ended = after_field-blank byte rest ended

after_blanks-field : (blanks found rest : List ℕ) → IsTrue (is_all_blank blanks)
    → 1 ≤ length found → IsTrue (list_all is_nonblank found)
    → after_blanks (blanks ++ (found ++ rest)) ≡ found ++ rest
after_blanks-field blanks [] rest blank some all = absurd (omega (arith, some))
after_blanks-field blanks (byte ∷ found) rest blank some all =
    after_prefix-append is_blank blanks (byte ∷ (found ++ rest)) blank
    ∙ none_ahead byte (found ++ rest)
    (nonblank byte (and_parts (is_nonblank byte) (list_all is_nonblank found) all).0)

pub after_blanks-begins : (bytes found rest : List ℕ) → BeginsWithField bytes found rest
    → after_blanks bytes ≡ found ++ rest
after_blanks-begins bytes found rest is =
    ap after_blanks is.parts
    ∙ after_blanks-field is.blanks found rest is.all_blank is.some is.all_nonblank

pub field-begins : (bytes found rest : List ℕ) → BeginsWithField bytes found rest
    → field (after_blanks bytes) ≡ found
field-begins bytes found rest is =
    ap field (after_blanks-begins bytes found rest is)
    ∙ prefix_while-append is_nonblank found rest is.all_nonblank
    ∙ ap (λ xs. found ++ xs) (no_field_left rest is.ended) ∙ append-nil found

pub after_field-begins : (bytes found rest : List ℕ) → BeginsWithField bytes found rest
    → after_field (after_blanks bytes) ≡ rest
after_field-begins bytes found rest is =
    ap after_field (after_blanks-begins bytes found rest is)
    ∙ after_prefix-append is_nonblank found rest is.all_nonblank ∙ all_left rest is.ended

ends_field-after_field : (bytes : List ℕ) → IsTrue (ends_field (after_field bytes))
ends_field-after_field [] = refl
ends_field-after_field (byte ∷ bytes) =
    at (is_blank byte) refl (ends_field-after_field bytes) where
      at : (b : Bool) → is_blank byte ≡ b → IsTrue (ends_field (after_field bytes))
          → IsTrue (ends_field (cond (not b) (after_field bytes) (byte ∷ bytes)))
      at true e later = e
      at false e later = later

pub begins-field : (bytes : List ℕ) → 1 ≤ length (field (after_blanks bytes))
    → BeginsWithField bytes (field (after_blanks bytes)) (after_field (after_blanks bytes))
begins-field bytes some = record {
  blanks = prefix_while is_blank bytes;
  parts = sym (ap (λ xs. prefix_while is_blank bytes ++ xs)
      (prefix_while-append-after_prefix is_nonblank (after_blanks bytes))
      ∙ prefix_while-append-after_prefix is_blank bytes);
  all_blank = list_all-prefix_while is_blank bytes;
  some = some;
  all_nonblank = list_all-prefix_while is_nonblank (after_blanks bytes);
  ended = ends_field-after_field (after_blanks bytes);
}

-- ---- numbers

pub natural-written : (digits : List ℕ) (n : ℕ) → WritesNatural digits n → natural digits ≡ Some n
unfolding natural
natural-written digits n is =
    let some : nat_lt 0 (length digits) ≡ true = grind (arith, nat_tests, is.some) in
    let few : nat_le (length digits) 9 ≡ true = grind (arith, nat_tests, is.few) in
    let all = is.all_digits in
    let value = is.value in
    rw (some, few, all, value) refl

pub written-natural : (digits : List ℕ) (n : ℕ) → natural digits ≡ Some n → WritesNatural digits n
unfolding natural
written-natural digits n is = at (is_numeral digits) refl is where
  at : (b : Bool) → is_numeral digits ≡ b → cond b (Some (number_of digits)) None ≡ Some n
      → WritesNatural digits n
  at false e h = cc
  at true e h =
      let all =
      and_parts (nat_lt 0 (length digits) && nat_le (length digits) 9) (list_all is_digit digits)
      e in
      let count = and_parts (nat_lt 0 (length digits)) (nat_le (length digits) 9) all.0 in
      record {
        some = grind (arith, nat_tests, count.0);
        few = grind (arith, nat_tests, count.1);
        all_digits = all.1;
        value = cc;
      }

no_minus_sign : (byte : ℕ) → IsTrue (is_digit byte) → (byte == 45) ≡ false
no_minus_sign byte is = grind (arith, nat_tests)

pub number_of_field-written : (found : List ℕ) (n : Number) → WritesNumber found n
    → number_of_field found ≡ Some n
unfolding number_of_field
number_of_field-written found n (unsigned {digits = []} is) = absurd (omega (arith, is.some))
number_of_field-written found n (unsigned {digits = byte ∷ digits} {n = m} is) =
    let other =
    no_minus_sign byte (and_parts (is_digit byte) (list_all is_digit digits) is.all_digits).0 in
    rw other (ap (option_map Natural) (natural-written (byte ∷ digits) m is))
number_of_field-written found n (signed {digits = digits} {n = m} is) =
    ap (option_map negative) (natural-written digits m is)

abbrev Mapped : (ℕ → Number) → Option ℕ → Number → Type 0
Mapped f o n = (m : ℕ) × (o ≡ Some m) × (f m ≡ n)

mapped : (f : ℕ → Number) (o : Option ℕ) (n : Number) → option_map f o ≡ Some n → Mapped f o n
mapped f None n e = cc
mapped f (Some m) n e = (m, refl, cc)

written-number_of_field : (found : List ℕ) (n : Number) → number_of_field found ≡ Some n
    → WritesNumber found n
unfolding number_of_field
written-number_of_field [] n is = cc
written-number_of_field (byte ∷ bytes) n is = at (byte == 45) refl is where
  at : (b : Bool) → (byte == 45) ≡ b
      → cond b (option_map negative (natural bytes)) (option_map Natural (natural (byte ∷ bytes)))
      ≡ Some n → WritesNumber (byte ∷ bytes) n
  at true e h =
      let m = mapped negative (natural bytes) n h in
      subst (λ b. WritesNumber (b ∷ bytes) n) (sym (eqb-true byte 45 e))
      (subst (WritesNumber (45 ∷ bytes)) m.2 (signed (written-natural bytes m.0 m.1)))
  at false e h =
      let m = mapped Natural (natural (byte ∷ bytes)) n h in
      subst (WritesNumber (byte ∷ bytes)) m.2
      (unsigned (written-natural (byte ∷ bytes) m.0 m.1))

-- bytes begin with a number exactly if one is read
pub number_at-begins : (bytes : List ℕ) (n : Number) (rest : List ℕ)
    → BeginsWithNumber bytes n rest → number_at bytes ≡ Some (n, rest)
unfolding number_at
number_at-begins bytes n rest is =
    let found = field-begins bytes is.field rest is.begins in
    let after = after_field-begins bytes is.field rest is.begins in
    let writes = number_of_field-written is.field n is.writes in
    rw (found, after, writes) refl

some_bytes : (found : List ℕ) (n : Number) → number_of_field found ≡ Some n → 1 ≤ length found
unfolding number_of_field
some_bytes [] n is = cc
some_bytes (byte ∷ found) n is = omega arith

pub begins_with_number : (bytes : List ℕ) (n : Number)
    → number_of_field (field (after_blanks bytes)) ≡ Some n
    → BeginsWithNumber bytes n (after_field (after_blanks bytes))
begins_with_number bytes n is = record {
  field = field (after_blanks bytes);
  begins = begins-field bytes (some_bytes (field (after_blanks bytes)) n is);
  writes = written-number_of_field (field (after_blanks bytes)) n is;
}

abbrev some_found : Number → List ℕ → Option (Number × List ℕ)
some_found n rest = Some (n, rest)

same_pair : (m n : Number) (xs ys : List ℕ) → some_found m xs ≡ some_found n ys
    → (m ≡ n) × (xs ≡ ys)
same_pair m n xs ys e =
    let found : Option (Number × List ℕ) → Number × List ℕ = λ o. unwrap_or o (m, xs) in
    (ap (λ o. (found o).0) e, ap (λ o. (found o).1) e)

pub begins-number_at : (bytes : List ℕ) (n : Number) (rest : List ℕ)
    → number_at bytes ≡ Some (n, rest) → BeginsWithNumber bytes n rest
unfolding number_at
begins-number_at bytes n rest is = at (number_of_field (field (after_blanks bytes))) refl is where
  at : (o : Option Number) → number_of_field (field (after_blanks bytes)) ≡ o
      → option_map {U = Number × List ℕ} (λ m. (m, after_field (after_blanks bytes))) o
      ≡ Some (n, rest)
      → BeginsWithNumber bytes n rest
  at None e h = cc
  at (Some m) e h =
      let same = same_pair m n (after_field (after_blanks bytes)) rest h in
      subst (λ xs. BeginsWithNumber bytes n xs) same.1
      (subst (λ k. BeginsWithNumber bytes k (after_field (after_blanks bytes))) same.0
      (begins_with_number bytes m e))
