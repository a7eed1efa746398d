-- The parts of a row, as their bytes define them, are what reading gives, or the cause that it
-- gives.
use Rattle.std.proofs.Common.{◌≡◌, ℕ, ◌≤◌, Bool, true, false, cond, ◌==◌, ◌&&◌, nat_lt, nat_le}
use Rattle.std.proofs.Common.{List, [], ◌∷◌, ◌++◌, length, map, drop, Option, Some, None}
use Rattle.std.proofs.Common.{option_map, Result, Ok, Err, IsTrue, refl, sym, ap, subst, ◌∙◌, arith}
use Rattle.std.specs.Option.{ok_or}
use Rattle.std.specs.List.{All}
use Rattle.std.proofs.lemmas.Bool.{and_parts, eqb-true, ne_eqb, false≢true}
use Rattle.std.proofs.lemmas.Bool.Decides.{nat_tests}
use Rattle.std.proofs.lemmas.List.{append-nil}
use Rattle.std.proofs.lemmas.List.Elements.{All-nil, All-cons, All-head, All-tail}
use Rattle.base_lines.specs.Bytes.{is_blank, is_all_blank, prefix_while}
use Rattle.base_lines.proofs.Prefixes.{prefix_while-append-after_prefix, list_all-prefix_while}
use Rattle.base_lines.proofs.Prefixes.{after_prefix-append}
use Rattle.data_rows.specs.declared.error.Cause.{Cause}
use Rattle.data_rows.specs.declared.error.Cause.TheVariants.{BadNumber, OutOfRange, TooManyRows}
use Rattle.data_rows.specs.declared.number.Number.{Number}
use Rattle.data_rows.specs.declared.number.Number.TheVariants.{Natural, Negative}
use Rattle.data_rows.specs.Fields.{after_blanks, field, after_field, fields}
use Rattle.data_rows.specs.RowParts.{ends_field, BeginsWithField, BeginsWithNumber}
use Rattle.data_rows.specs.RowParts.{MayBeginWithNumber, left_out, written, IsNumberList, line_ends}
use Rattle.data_rows.specs.RowParts.{zero_ends, goes_on, IsTextAfter}
use Rattle.data_rows.specs.Fields.{number_of_field, number_at}
use Rattle.data_rows.specs.Rows.{◌>>=◌, number_or_cause, within, is_zero, before_zero, list_in}
use Rattle.data_rows.specs.Rows.{numbers_to_zero, all_within, some_of, few_of, text_or_cause}
use Rattle.data_rows.specs.Rows.{word_or_cause, number_or_zero}
use Rattle.data_rows.specs.RowGrammar.{IsBetween}
use Rattle.data_rows.proofs.FieldLemmas.{field-cons, fields_none, fields_first}
use Rattle.data_rows.proofs.PartLemmas.{after_blanks-begins, field-begins, after_field-begins}
use Rattle.data_rows.proofs.PartLemmas.{begins-field, number_of_field-written, number_at-begins}
use Rattle.data_rows.proofs.PartLemmas.{begins_with_number, begins-number_at}

-- ---- a result in two steps

module _ {A B : Type 0} where
  pub in_steps : (r : Result A Cause) (f : A → Result B Cause) (y : B) → (r >>= f) ≡ Ok y
      → (x : A) × (r ≡ Ok x) × (f x ≡ Ok y)
  in_steps (Ok x) f y e = (x, refl, e)
  in_steps (Err cause) f y e = cc

module _ {A : Type 0} where
  abbrev pub made : A → Result A Cause
  made x = Ok x

  pub same_ok : (x y : A) → made x ≡ made y → x ≡ y
  same_ok x y e = cc

-- ---- a number

pub number-read : (bytes : List ℕ) (n : Number) (rest : List ℕ) → BeginsWithNumber bytes n rest
    → number_or_cause bytes ≡ Ok (n, rest)
number-read bytes n rest is = ap (λ o. ok_or o BadNumber) (number_at-begins bytes n rest is)

pub read-number : (bytes : List ℕ) (found : Number × List ℕ) → number_or_cause bytes ≡ Ok found
    → BeginsWithNumber bytes found.0 found.1
read-number bytes found is = at (number_at bytes) refl is where
  at : (o : Option (Number × List ℕ)) → number_at bytes ≡ o → ok_or o BadNumber ≡ Ok found
      → BeginsWithNumber bytes found.0 found.1
  at None e h = cc
  at (Some other) e h =
      let same : other ≡ found = cc in
      begins-number_at bytes found.0 found.1 (e ∙ ap Some same)

pub within-read : (low high n : ℕ) → IsBetween low high n → within low high (Natural n) ≡ Ok n
within-read low high n is =
    let above : nat_le low n ≡ true = grind (arith, nat_tests, is.0) in
    let below : nat_le n high ≡ true = grind (arith, nat_tests, is.1) in
    rw (above, below) refl

pub read-within : (low high : ℕ) (x : Number) (n : ℕ) → within low high x ≡ Ok n
    → (x ≡ Natural n) × IsBetween low high n
read-within low high (Natural m) n is = at (nat_le low m && nat_le m high) refl is where
  at : (b : Bool) → (nat_le low m && nat_le m high) ≡ b
      → cond {A = Result ℕ Cause} b (Ok m) (Err OutOfRange) ≡ Ok n
      → (Natural m ≡ Natural n) × IsBetween low high n
  at false e h = cc
  at true e h =
      let same : m ≡ n = cc in
      let both = and_parts (nat_le low m) (nat_le m high) e in
      let above : low ≤ m = grind (arith, nat_tests, both.0) in
      let below : m ≤ high = grind (arith, nat_tests, both.1) in
      (ap Natural same, subst (IsBetween low high) same (above, below))
read-within low high (Negative m) n is = cc

-- ---- blanks

after_blanks-all : (bytes : List ℕ) → IsTrue (is_all_blank bytes) → after_blanks bytes ≡ []
after_blanks-all bytes blank =
    ap after_blanks (sym (append-nil bytes)) ∙ after_prefix-append is_blank bytes [] blank

all-after_blanks : (bytes : List ℕ) → after_blanks bytes ≡ [] → IsTrue (is_all_blank bytes)
all-after_blanks bytes none =
    subst (λ xs. IsTrue (is_all_blank xs))
    (sym (append-nil (prefix_while is_blank bytes))
    ∙ sym (ap (λ xs. prefix_while is_blank bytes ++ xs) none)
    ∙ prefix_while-append-after_prefix is_blank bytes) (list_all-prefix_while is_blank bytes)

no_bytes : (bytes : List ℕ) → (length bytes == 0) ≡ true → bytes ≡ []
no_bytes [] e = refl
no_bytes (b ∷ bytes) e = absurd (omega (arith, eqb-true (length (b ∷ bytes)) 0 e))

some_left : (bytes found rest : List ℕ) → BeginsWithField bytes found rest
    → (length (after_blanks bytes) == 0) ≡ false
some_left bytes found rest is =
    ap (λ xs. length xs == 0) (after_blanks-begins bytes found rest is) ∙ at found is.some where
      at : (front : List ℕ) → 1 ≤ length front → (length (front ++ rest) == 0) ≡ false
      at [] some = absurd (omega (arith, some))
      at (b ∷ front) some = ne_eqb _ _ (λ e. omega (arith, e))

pub nonblank-field : (bytes found rest : List ℕ) → BeginsWithField bytes found rest
    → is_all_blank bytes ≡ false
nonblank-field bytes found rest is = at (is_all_blank bytes) refl where
  at : (b : Bool) → is_all_blank bytes ≡ b → b ≡ false
  at true blank =
      absurd (false≢true (sym (some_left bytes found rest is)
      ∙ ap (λ xs. length xs == 0) (after_blanks-all bytes blank)))
  at false e = refl

pub fields-begins : (bytes found rest : List ℕ) → BeginsWithField bytes found rest
    → fields bytes ≡ found ∷ fields rest
fields-begins bytes found rest is =
    fields_first bytes (after_blanks bytes) refl (some_left bytes found rest is)
    ∙ ap (λ f. f ∷ fields (after_field (after_blanks bytes))) (field-begins bytes found rest is)
    ∙ ap (λ xs. found ∷ fields xs) (after_field-begins bytes found rest is)

pub fields-all : (bytes : List ℕ) → IsTrue (is_all_blank bytes) → fields bytes ≡ []
fields-all bytes blank =
    fields_none bytes (after_blanks bytes) refl
    (ap (λ xs. length xs == 0) (after_blanks-all bytes blank))

-- ---- a number that may be left out

pub may-read : (bytes : List ℕ) (n : Number) (rest : List ℕ) → MayBeginWithNumber bytes n rest
    → number_or_zero bytes ≡ Ok (n, rest)
may-read bytes n rest (left_out blank) =
    let none = after_blanks-all bytes blank in rw none refl
may-read bytes n rest (written is) =
    let some = some_left bytes is.field rest is.begins in
    rw some (number-read bytes n rest is)

pub read-may : (bytes : List ℕ) (found : Number × List ℕ) → number_or_zero bytes ≡ Ok found
    → MayBeginWithNumber bytes found.0 found.1
read-may bytes found is = at (length (after_blanks bytes) == 0) refl is where
  at : (b : Bool) → (length (after_blanks bytes) == 0) ≡ b
      → cond b (Ok (Natural 0, [])) (number_or_cause bytes) ≡ Ok found
      → MayBeginWithNumber bytes found.0 found.1
  at true e h =
      let zero : Number × List ℕ = (Natural 0, []) in
      let same : zero ≡ found = cc in
      subst (λ (f : Number × List ℕ). MayBeginWithNumber bytes f.0 f.1) same
      (left_out (all-after_blanks bytes (no_bytes (after_blanks bytes) e)))
  at false e h = written (read-number bytes found h)

-- ---- a list

not_zero : (n : Number) → ¬ (n ≡ Natural 0) → is_zero n ≡ false
not_zero (Natural m) other = ne_eqb m 0 (λ e. other (ap Natural e))
not_zero (Negative m) other = refl

zero_only : (n : Number) → is_zero n ≡ true → n ≡ Natural 0
zero_only (Natural m) e = ap Natural (eqb-true m 0 e)
zero_only (Negative m) e = cc

no_zero : (n : Number) → is_zero n ≡ false → ¬ (n ≡ Natural 0)
no_zero n e zero = absurd (cc (e, ap is_zero zero))

numbers-list : (bytes : List ℕ) (ns : List Number) → IsNumberList bytes ns
    → numbers_to_zero (fields bytes) ≡ Some ns
numbers-list bytes ns (line_ends blank) = ap numbers_to_zero (fields-all bytes blank)
numbers-list bytes ns (zero_ends {rest = rest} is) =
    let first = fields-begins bytes is.field rest is.begins in
    let writes = number_of_field-written is.field (Natural 0) is.writes in
    rw (first, writes) refl
numbers-list bytes ns (goes_on {number = n} {rest = rest} {numbers = more} is other later) =
    let first = fields-begins bytes is.field rest is.begins in
    let writes = number_of_field-written is.field n is.writes in
    let goes = not_zero n other in
    let ahead = numbers-list rest more later in
    rw (first, writes, goes, ahead) refl

pub list-read : (bytes : List ℕ) (ns : List Number) → IsNumberList bytes ns
    → list_in bytes ≡ Ok ns
list-read bytes ns is = ap (λ o. ok_or o BadNumber) (numbers-list bytes ns is)

-- the fields that are ahead of these bytes
abbrev Ahead : List ℕ → List (List ℕ) → Type 0
Ahead bytes [] = IsTrue (is_all_blank bytes)
Ahead bytes (f ∷ fs) = (field (after_blanks bytes) ≡ f)
    × (fields (after_field (after_blanks bytes)) ≡ fs)

ahead : (bytes : List ℕ) (fs : List (List ℕ)) → fields bytes ≡ fs → Ahead bytes fs
ahead bytes fs is = at (length (after_blanks bytes) == 0) refl fs is where
  at : (b : Bool) → (length (after_blanks bytes) == 0) ≡ b → (fs : List (List ℕ))
      → fields bytes ≡ fs → Ahead bytes fs
  at true e [] h = all-after_blanks bytes (no_bytes (after_blanks bytes) e)
  at true e (f ∷ fs) h =
      absurd (cc (fields_none bytes (after_blanks bytes) refl e, h))
  at false e [] h =
      absurd (cc (fields_first bytes (after_blanks bytes) refl e, h))
  at false e (f ∷ fs) h =
      let first = fields_first bytes (after_blanks bytes) refl e in
      let same : field (after_blanks bytes) ≡ f = cc in
      let rest : fields (after_field (after_blanks bytes)) ≡ fs = cc in
      (same, rest)

some_field : (bytes : List ℕ) → (length (after_blanks bytes) == 0) ≡ false
    → 1 ≤ length (field (after_blanks bytes))
some_field [] e = cc
some_field (b ∷ bytes) e = at (is_blank b) refl e (some_field bytes) where
  at : (v : Bool) → is_blank b ≡ v → (length (cond v (after_blanks bytes) (b ∷ bytes)) == 0) ≡ false
      → ((length (after_blanks bytes) == 0) ≡ false → 1 ≤ length (field (after_blanks bytes)))
      → 1 ≤ length (field (cond v (after_blanks bytes) (b ∷ bytes)))
  at true is h later = later h
  at false is h later =
      let front = field-cons b bytes is in
      subst (λ (xs : List ℕ). 1 ≤ length xs) (sym front) (omega arith)

-- fields that are ahead begin these bytes
pub ahead_begins : (bytes f : List ℕ) (fs : List (List ℕ)) → fields bytes ≡ f ∷ fs
    → (rest : List ℕ) × BeginsWithField bytes f rest × (fields rest ≡ fs)
ahead_begins bytes f fs is = at (length (after_blanks bytes) == 0) refl where
  at : (b : Bool) → (length (after_blanks bytes) == 0) ≡ b
      → (rest : List ℕ) × BeginsWithField bytes f rest × (fields rest ≡ fs)
  at true e = absurd (cc (fields_none bytes (after_blanks bytes) refl e, is))
  at false e =
      let here = ahead bytes (f ∷ fs) is in (
        after_field (after_blanks bytes),
        subst (λ g. BeginsWithField bytes g (after_field (after_blanks bytes))) here.0
            (begins-field bytes (some_field bytes e)),
        here.1,
      )

pub none_ahead_blank : (bytes : List ℕ) → fields bytes ≡ [] → IsTrue (is_all_blank bytes)
none_ahead_blank bytes is = ahead bytes [] is

list-numbers : (fs : List (List ℕ)) (bytes : List ℕ) (ns : List Number) → fields bytes ≡ fs
    → numbers_to_zero fs ≡ Some ns → IsNumberList bytes ns
list-numbers [] bytes ns is read =
    let none : [] ≡ ns = cc in
    subst (IsNumberList bytes) none (line_ends (ahead bytes [] is))
list-numbers (f ∷ fs) bytes ns is read =
    let here = ahead bytes (f ∷ fs) is in
    at (number_of_field f) refl here.0 read
    (λ more later. list-numbers fs (after_field (after_blanks bytes)) more here.1 later) where
      going : (n : Number) → BeginsWithNumber bytes n (after_field (after_blanks bytes))
          → (b : Bool)
          → is_zero n ≡ b
          → cond b (Some []) (option_map (λ more. n ∷ more) (numbers_to_zero fs)) ≡ Some ns
          → ((more : List Number) → numbers_to_zero fs ≡ Some more
          → IsNumberList (after_field (after_blanks bytes)) more) → IsNumberList bytes ns
      going n begins true e h next =
          let none : [] ≡ ns = cc in
          subst (IsNumberList bytes) none
          (zero_ends (subst (λ k. BeginsWithNumber bytes k (after_field (after_blanks bytes)))
          (zero_only n e) begins))
      going n begins false e h next = goes (numbers_to_zero fs) refl h where
        goes : (o : Option (List Number)) → numbers_to_zero fs ≡ o
            → option_map (λ more. n ∷ more) o ≡ Some ns → IsNumberList bytes ns
        goes None none g = cc
        goes (Some more) some g =
            let same : n ∷ more ≡ ns = cc in
            subst (IsNumberList bytes) same (goes_on begins (no_zero n e) (next more some))

      at : (o : Option Number) → number_of_field f ≡ o → field (after_blanks bytes) ≡ f
          → before_zero o (numbers_to_zero fs) ≡ Some ns
          → ((more : List Number) → numbers_to_zero fs ≡ Some more
          → IsNumberList (after_field (after_blanks bytes)) more) → IsNumberList bytes ns
      at None e same h next = cc
      at (Some n) e same h next =
          going n (begins_with_number bytes n (ap number_of_field same ∙ e)) (is_zero n) refl h next

pub read-list : (bytes : List ℕ) (ns : List Number) → list_in bytes ≡ Ok ns
    → IsNumberList bytes ns
read-list bytes ns is = at (numbers_to_zero (fields bytes)) refl is where
  at : (o : Option (List Number)) → numbers_to_zero (fields bytes) ≡ o → ok_or o BadNumber ≡ Ok ns
      → IsNumberList bytes ns
  at None e h = cc
  at (Some more) e h =
      let same : more ≡ ns = cc in
      list-numbers (fields bytes) bytes ns refl (e ∙ ap Some same)

pub all-read : (low high : ℕ) (ns : List ℕ) → All (IsBetween low high) ns
    → all_within low high (map Natural ns) ≡ Ok ns
all-read low high [] all = refl
all-read low high (n ∷ ns) all =
    let here = within-read low high n (All-head (IsBetween low high) n ns all) in
    let later = all-read low high ns (All-tail (IsBetween low high) n ns all) in
    rw (here, later) refl

pub read-all : (low high : ℕ) (ns : List Number) (vs : List ℕ) → all_within low high ns ≡ Ok vs
    → (ns ≡ map Natural vs) × All (IsBetween low high) vs
read-all low high [] vs is =
    let none : [] ≡ vs = cc in
    subst (λ (ws : List ℕ). ([] ≡ map Natural ws) × All (IsBetween low high) ws) none
    (refl, All-nil (IsBetween low high))
read-all low high (n ∷ ns) vs is =
    let v = in_steps (within low high n) _ vs is in
    let ws = in_steps (all_within low high ns) _ vs v.2 in
    let first = read-within low high n v.0 v.1 in
    let later = read-all low high ns ws.0 ws.1 in
    let same : v.0 ∷ ws.0 ≡ vs = cc (ws.2) in
    let all : n ∷ ns ≡ map Natural (v.0 ∷ ws.0) = cc (first.0, later.0) in
    subst (λ (us : List ℕ). (n ∷ ns ≡ map Natural us) × All (IsBetween low high) us) same
    (all, All-cons (IsBetween low high) v.0 ws.0 first.1 later.1)

pub some-read : (ns : List Number) → 1 ≤ length ns → some_of ns ≡ Ok ns
some-read ns some = let more : nat_lt 0 (length ns) ≡ true = grind (arith, nat_tests, some) in
    rw more refl

pub read-some : (ns ms : List Number) → some_of ns ≡ Ok ms → (ns ≡ ms) × (1 ≤ length ms)
read-some ns ms is = at (nat_lt 0 (length ns)) refl is where
  at : (b : Bool) → nat_lt 0 (length ns) ≡ b → cond b (Ok ns) (Err BadNumber) ≡ Ok ms
      → (ns ≡ ms) × (1 ≤ length ms)
  at false e h = cc
  at true e h =
      let same : ns ≡ ms = cc in
      (same, subst (λ (xs : List Number). 1 ≤ length xs) same (grind (arith, nat_tests, e)))

pub few-read : (ns : List ℕ) → length ns ≤ 40 → few_of ns ≡ Ok ns
few-read ns few = let most : nat_le (length ns) 40 ≡ true = grind (arith, nat_tests, few) in
    rw most refl

pub read-few : (ns ms : List ℕ) → few_of ns ≡ Ok ms → (ns ≡ ms) × (length ms ≤ 40)
read-few ns ms is = at (nat_le (length ns) 40) refl is where
  at : (b : Bool) → nat_le (length ns) 40 ≡ b → cond b (Ok ns) (Err TooManyRows) ≡ Ok ms
      → (ns ≡ ms) × (length ms ≤ 40)
  at false e h = cc
  at true e h =
      let same : ns ≡ ms = cc in
      (same, subst (λ (xs : List ℕ). length xs ≤ 40) same (grind (arith, nat_tests, e)))

-- ---- a text

pub text-read : (rest text : List ℕ) → IsTextAfter rest text → length text ≤ 255
    → text_or_cause rest ≡ Ok text
text-read [] text is short =
    let same : text ≡ [] = is in rw same refl
text-read (byte ∷ rest) text is short =
    let same : text ≡ rest = is.1 in
    let few : nat_le (length text) 255 ≡ true = grind (arith, nat_tests, short) in
    subst (λ (xs : List ℕ). cond (nat_le (length xs) 255) (Ok xs) (Err OutOfRange) ≡ Ok text) same
    (rw few refl)

is_text : (rest : List ℕ) → IsTrue (ends_field rest) → IsTextAfter rest (drop 1 rest)
is_text [] ended = refl
is_text (byte ∷ rest) ended = (ended, refl)

pub read-text : (rest text : List ℕ) → IsTrue (ends_field rest) → text_or_cause rest ≡ Ok text
    → IsTextAfter rest text × (length text ≤ 255)
read-text rest text ended is = at (nat_le (length (drop 1 rest)) 255) refl is where
  at : (b : Bool) → nat_le (length (drop 1 rest)) 255 ≡ b
      → cond b (Ok (drop 1 rest)) (Err OutOfRange) ≡ Ok text
      → IsTextAfter rest text × (length text ≤ 255)
  at false e h = cc
  at true e h =
      let same : drop 1 rest ≡ text = cc in
      let few : length (drop 1 rest) ≤ 255 = grind (arith, nat_tests, e) in
      subst (λ (xs : List ℕ). IsTextAfter rest xs × (length xs ≤ 255)) same
      (is_text rest ended, few)

-- ---- a word

pub word-read : (rest word ignored : List ℕ) → BeginsWithField rest word ignored
    → word_or_cause rest ≡ Ok word
word-read rest word ignored is =
    let found = field-begins rest word ignored is in
    let some : nat_lt 0 (length word) ≡ true = grind (arith, nat_tests, is.some) in
    rw (found, some) refl

pub read-word : (rest word : List ℕ) → word_or_cause rest ≡ Ok word
    → BeginsWithField rest word (after_field (after_blanks rest))
read-word rest word is = at (nat_lt 0 (length (field (after_blanks rest)))) refl is where
  at : (b : Bool) → nat_lt 0 (length (field (after_blanks rest))) ≡ b
      → cond b (Ok (field (after_blanks rest))) (Err BadNumber) ≡ Ok word
      → BeginsWithField rest word (after_field (after_blanks rest))
  at false e h = cc
  at true e h =
      let same : field (after_blanks rest) ≡ word = cc in
      subst (λ (w : List ℕ). BeginsWithField rest w (after_field (after_blanks rest))) same
      (begins-field rest (grind (arith, nat_tests, e)))
