-- The cause that reading gives for a row is its lowest.
use Rattle.std.proofs.Common.{◌≡◌, ◌⊎◌, inl, inr, ℕ, Bool, true, false, cond, List, [], ◌∷◌, length}
use Rattle.std.proofs.Common.{Option, Some, None, Result, Ok, Err, refl, sym, subst}
use Rattle.std.specs.Prelude.{nat_lt, IfErr}
use Rattle.std.specs.Option.{ok_or}
use Rattle.std.specs.Result.{is_ok}
use Rattle.data_rows.specs.declared.error.Cause.{Cause}
use Rattle.data_rows.specs.declared.error.Cause.TheVariants.{BadNumber, OutOfRange, TooManyRows}
use Rattle.data_rows.specs.declared.error.Section.{Section}
use Rattle.data_rows.specs.declared.number.Number.{Number}
use Rattle.data_rows.specs.declared.number.Number.TheVariants.{Natural, Negative}
use Rattle.data_rows.specs.Rows.{Going, ◌>>=◌, number_or_cause, numbers_to_zero, list_in, few_of}
use Rattle.data_rows.specs.Rows.{word_or_cause, word_number, number_or_zero, within, all_within}
use Rattle.data_rows.specs.Rows.{text_or_cause, object_or_prop, second_place, text_line}
use Rattle.data_rows.specs.Rows.{object_line, way_row, word_row, placement_row, default_row}
use Rattle.data_rows.specs.Rows.{condition_row, hint_row, entry_in}
use Rattle.data_rows.specs.Fields.{number_at, fields}
use Rattle.cave_data.proofs.PartsRead.{reads_parts, reads_in_range, IsLowestRead}

-- what reading a row says of its parts and ranges
abbrev pub Judged : {X : Type 0} → Result X Cause → Bool → Bool → Type 0
Judged (Ok x) parts ranges = (parts ≡ true) × (ranges ≡ true)
Judged (Err cause) parts ranges = IsLowestRead cause parts ranges

-- the same of a row without a list, which is never too long
abbrev Simple : {X : Type 0} → Result X Cause → Bool → Type 0
Simple (Ok x) parts = parts ≡ true
Simple (Err cause) parts = ((cause ≡ BadNumber) × (parts ≡ false))
    ⊎ ((cause ≡ OutOfRange) × (parts ≡ true))

-- A step fails with one cause only.

abbrev OnlyErr : {X : Type 0} → Cause → Result X Cause → Type 0
OnlyErr only r = IfErr r (λ cause. cause ≡ only)

none_missing : {X : Type 0} (only : Cause) (o : Option X) → OnlyErr only (ok_or o only)
none_missing only (Some x) = tt
none_missing only None = refl

chosen : {X : Type 0} (only : Cause) (b : Bool) (x : X) → OnlyErr only (cond b (Ok x) (Err only))
chosen only true x = tt
chosen only false x = refl

then_ok : {X Y : Type 0} (only : Cause) (r : Result X Cause) (f : X → Y) → OnlyErr only r
    → OnlyErr only (r >>= λ x. Ok (f x))
then_ok only (Ok x) f h = tt
then_ok only (Err cause) f h = h

bound : {X Y : Type 0} (only : Cause) (r : Result X Cause) (f : X → Result Y Cause) → OnlyErr only r
    → ((x : X) → OnlyErr only (f x)) → OnlyErr only (r >>= f)
bound only (Ok x) f h more = more x
bound only (Err cause) f h more = h

maybe_zero : {X : Type 0} (b : Bool) (x : X) (r : Result X Cause) → OnlyErr BadNumber r
    → OnlyErr BadNumber (cond b (Ok x) r)
maybe_zero true x r h = tt
maybe_zero false x r h = h

within_only : (low high : ℕ) (n : Number) → OnlyErr OutOfRange (within low high n)
within_only low high (Natural n) = chosen OutOfRange _ n
within_only low high (Negative n) = refl

all_within_only : (low high : ℕ) (ns : List Number) → OnlyErr OutOfRange (all_within low high ns)
all_within_only low high [] = tt
all_within_only low high (n ∷ ns) =
    bound OutOfRange (within low high n) _ (within_only low high n)
    (λ v. then_ok OutOfRange (all_within low high ns) _ (all_within_only low high ns))

object_only : (n : Number) → OnlyErr OutOfRange (object_or_prop n)
object_only (Natural n) = chosen OutOfRange _ n
object_only (Negative n) = refl

word_only : (n : Number) → OnlyErr OutOfRange (word_number n)
word_only (Natural n) = chosen OutOfRange _ n
word_only (Negative n) = refl

second_only : (n : Number) → OnlyErr OutOfRange (second_place n)
second_only (Natural n) = chosen OutOfRange _ _
second_only (Negative n) = chosen OutOfRange _ _

-- Steps of a row: its parts, its ranges, its length.

lacks : (cause : Cause) (ranges : Bool) → cause ≡ BadNumber → IsLowestRead cause false ranges
lacks cause ranges e = subst (λ (c : Cause). IsLowestRead c false ranges) (sym e) refl

exceeds : (cause : Cause) → cause ≡ OutOfRange → IsLowestRead cause true false
exceeds cause e = subst (λ (c : Cause). IsLowestRead c true false) (sym e) (refl, refl)

is_long : (cause : Cause) → cause ≡ TooManyRows → IsLowestRead cause true true
is_long cause e = subst (λ (c : Cause). IsLowestRead c true true) (sym e) (refl, refl)

part : {A B C : Type 0} (r : Result A Cause) (f : A → Result B Cause) (g : A → Result C Cause)
    → OnlyErr BadNumber r → ((a : A) → Simple (f a) (is_ok (g a)))
    → Simple (r >>= f) (is_ok (r >>= g))
part (Ok a) f g h more = more a
part (Err cause) f g h more = inl (h, refl)

last_part : {A B : Type 0} (r : Result A Cause) (f : A → Result B Cause) → OnlyErr BadNumber r
    → ((a : A) → Simple (f a) true) → Simple (r >>= f) (is_ok r)
last_part (Ok a) f h more = more a
last_part (Err cause) f h more = inl (h, refl)

ranged : {A B : Type 0} (r : Result A Cause) (f : A → Result B Cause) → OnlyErr OutOfRange r
    → ((a : A) → Simple (f a) true) → Simple (r >>= f) true
ranged (Ok a) f h more = more a
ranged (Err cause) f h more = inr (h, refl)

-- the same if the ranges of what follows are judged too
listed : {A B C D : Type 0} (r : Result A Cause) (f : A → Result B Cause) (g : A → Result C Cause)
    (k : A → Result D Cause) → OnlyErr BadNumber r
    → ((a : A) → Judged (f a) (is_ok (g a)) (is_ok (k a)))
    → Judged (r >>= f) (is_ok (r >>= g)) (is_ok (r >>= k))
listed (Ok a) f g k h more = more a
listed (Err cause) f g k h more = lacks cause false h

last_listed : {A B D : Type 0} (r : Result A Cause) (f : A → Result B Cause) (k : A
    → Result D Cause) → OnlyErr BadNumber r
    → ((a : A) → Judged (f a) true (is_ok (k a))) → Judged (r >>= f) (is_ok r) (is_ok (r >>= k))
last_listed (Ok a) f k h more = more a
last_listed (Err cause) f k h more = lacks cause false h

in_ranges : {A B D : Type 0} (r : Result A Cause) (f : A → Result B Cause) (k : A → Result D Cause)
    → OnlyErr OutOfRange r → ((a : A) → Judged (f a) true (is_ok (k a)))
    → Judged (r >>= f) true (is_ok (r >>= k))
in_ranges (Ok a) f k h more = more a
in_ranges (Err cause) f k h more = exceeds cause h

last_range : {A B : Type 0} (r : Result A Cause) (f : A → Result B Cause) → OnlyErr OutOfRange r
    → ((a : A) → Judged (f a) true true) → Judged (r >>= f) true (is_ok r)
last_range (Ok a) f h more = more a
last_range (Err cause) f h more = exceeds cause h

short : {A B : Type 0} (r : Result A Cause) (f : A → B) → OnlyErr TooManyRows r
    → Judged (r >>= λ a. Ok (f a)) true true
short (Ok a) f h = (refl, refl)
short (Err cause) f h = is_long cause h

entered : {A B : Type 0} (r : Result A Cause) (f : A → B) (parts ranges : Bool)
    → Judged r parts ranges → Judged (r >>= λ a. Ok (f a)) parts ranges
entered (Ok a) f parts ranges h = h
entered (Err cause) f parts ranges h = h

judged : {A B : Type 0} (r : Result A Cause) (f : A → B) (parts : Bool) → Simple r parts
    → Judged (r >>= λ a. Ok (f a)) parts (is_ok (r >>= λ a. Ok (f a)))
judged (Ok a) f parts h = (h, refl)
judged (Err cause) f parts (inl h) = subst (λ (c : Cause). IsLowestRead c parts false) (sym h.0) h.1
judged (Err cause) f parts (inr h) =
    subst (λ (c : Cause). IsLowestRead c parts false) (sym h.0) (h.1, refl)

-- Rows.

number_only : (bytes : List ℕ) → OnlyErr BadNumber (number_or_cause bytes)
number_only bytes = none_missing BadNumber (number_at bytes)

zero_only : (bytes : List ℕ) → OnlyErr BadNumber (number_or_zero bytes)
zero_only bytes = maybe_zero _ _ (number_or_cause bytes) (number_only bytes)

list_only : (bytes : List ℕ) → OnlyErr BadNumber (list_in bytes)
list_only bytes = none_missing BadNumber (numbers_to_zero (fields bytes))

text_judged : (low high : ℕ) (line : List ℕ)
    → Simple (text_line low high line) (is_ok (number_or_cause line))
unfolding text_line
text_judged low high line =
    last_part (number_or_cause line) _ (number_only line) (λ n.
    ranged (within low high n.0) _ (within_only low high n.0)
    (λ number. ranged (text_or_cause n.1) _ (chosen OutOfRange _ _) (λ text. refl)))

object_judged : (line : List ℕ) → Simple (object_line line) (is_ok (number_or_cause line))
unfolding object_line
object_judged line =
    last_part (number_or_cause line) _ (number_only line) (λ n.
    ranged (object_or_prop n.0) _ (object_only n.0)
    (λ number. ranged (text_or_cause n.1) _ (chosen OutOfRange _ _) (λ text. refl)))

word_judged : (line : List ℕ) → Simple (word_row line) (reads_parts Section.Words line)
unfolding word_row
word_judged line =
    part (number_or_cause line) _ _ (number_only line) (λ n.
    last_part (word_or_cause n.1) _ (chosen BadNumber _ _)
    (λ word. ranged (word_number n.0) _ (word_only n.0) (λ number. refl)))

placement_judged : (line : List ℕ)
    → Simple (placement_row line) (reads_parts Section.Placements line)
unfolding placement_row
placement_judged line =
    part (number_or_cause line) _ _ (number_only line) (λ x.
    part (number_or_zero x.1) _ _ (zero_only x.1) (λ p.
    last_part (number_or_zero p.1) _ (zero_only p.1) (λ q.
    ranged (within 1 100 x.0) _ (within_only 1 100 x.0) (λ object.
    ranged (within 0 300 p.0) _ (within_only 0 300 p.0)
    (λ first. ranged (second_place q.0) _ (second_only q.0) (λ second. refl))))))

default_judged : (line : List ℕ) → Simple (default_row line) (reads_parts Section.Defaults line)
unfolding default_row
default_judged line =
    part (number_or_cause line) _ _ (number_only line) (λ a.
    last_part (number_or_cause a.1) _ (number_only a.1) (λ m.
    ranged (within 1 99 a.0) _ (within_only 1 99 a.0)
    (λ action. ranged (within 0 499 m.0) _ (within_only 0 499 m.0) (λ message. refl))))

hint_judged : (line : List ℕ) → Simple (hint_row line) (reads_parts Section.Hints line)
unfolding hint_row
hint_judged line =
    part (number_or_cause line) _ _ (number_only line) (λ h.
    part (number_or_cause h.1) _ _ (number_only h.1) (λ t.
    part (number_or_cause t.1) _ _ (number_only t.1) (λ p.
    part (number_or_cause p.1) _ _ (number_only p.1) (λ q.
    last_part (number_or_cause q.1) _ (number_only q.1) (λ x.
    ranged (within 1 20 h.0) _ (within_only 1 20 h.0) (λ hint.
    ranged (within 0 9999 t.0) _ (within_only 0 9999 t.0) (λ turns.
    ranged (within 0 100 p.0) _ (within_only 0 100 p.0) (λ points.
    ranged (within 0 499 q.0) _ (within_only 0 499 q.0)
    (λ question. ranged (within 0 499 x.0) _ (within_only 0 499 x.0) (λ text. refl))))))))))

condition_judged : (line : List ℕ)
    → Judged (condition_row line) (reads_parts Section.Conditions line)
    (reads_in_range Section.Conditions line)
unfolding condition_row
condition_judged line =
    listed (number_or_cause line) _ _ _ (number_only line) (λ b.
    last_listed (list_in b.1) _ _ (list_only b.1) (λ ns.
    in_ranges (within 0 20 b.0) _ _ (within_only 0 20 b.0)
    (λ bit. last_range (all_within 1 300 ns) _ (all_within_only 1 300 ns)
    (λ all. short (few_of all) _ (chosen TooManyRows _ all)))))

abbrev some_if : Bool → List Number → Result (List Number) Cause
some_if some list = cond some (Ok list) (Err BadNumber)

way_judged : (line : List ℕ)
    → Judged (way_row line) (reads_parts Section.Travel line) (reads_in_range Section.Travel line)
unfolding way_row
way_judged line =
    listed (number_or_cause line) _ _ _ (number_only line) (λ x.
    listed (number_or_cause x.1) _ _ _ (number_only x.1) (λ y.
    listed (list_in y.1) _ _ _ (list_only y.1) (λ list. at x y list (nat_lt 0 (length list)))))
  where
    at : (x y : Number × List ℕ) (list : List Number) (some : Bool)
        → Judged {X = ℕ × Going} (some_if some list >>= λ ns. within 1 300 x.0
        >>= λ place. within 0 999999 y.0 >>= λ target. all_within 1 999 ns >>= λ all. few_of all
        >>= λ motions. Ok (place, record { target = target; motions = motions }))
        (is_ok (some_if some list))
        (is_ok (some_if some list >>= λ ns. within 1 300 x.0 >>= λ place. within 0 999999 y.0
        >>= λ target. all_within 1 999 ns))
    at x y list false = refl
    at x y list true =
        in_ranges (within 1 300 x.0) _ _ (within_only 1 300 x.0) (λ place.
        in_ranges (within 0 999999 y.0) _ _ (within_only 0 999999 y.0) (λ target.
        last_range (all_within 1 999 list) _ (all_within_only 1 999 list)
        (λ all. short (few_of all) _ (chosen TooManyRows _ all))))

pub row_judged : (s : Section) (line : List ℕ)
    → Judged (entry_in s line) (reads_parts s line) (reads_in_range s line)
row_judged Section.LongTexts line = judged (text_line 1 300 line) _ _ (text_judged 1 300 line)
row_judged Section.ShortTexts line = judged (text_line 1 300 line) _ _ (text_judged 1 300 line)
row_judged Section.Travel line = entered (way_row line) _ _ _ (way_judged line)
row_judged Section.Words line = judged (word_row line) _ _ (word_judged line)
row_judged Section.Objects line = judged (object_line line) _ _ (object_judged line)
row_judged Section.Messages line = judged (text_line 1 499 line) _ _ (text_judged 1 499 line)
row_judged Section.Placements line = judged (placement_row line) _ _ (placement_judged line)
row_judged Section.Defaults line = judged (default_row line) _ _ (default_judged line)
row_judged Section.Conditions line = entered (condition_row line) _ _ _ (condition_judged line)
row_judged Section.Classes line = judged (text_line 0 9999 line) _ _ (text_judged 0 9999 line)
row_judged Section.Hints line = judged (hint_row line) _ _ (hint_judged line)
row_judged Section.Magic line = judged (text_line 1 499 line) _ _ (text_judged 1 499 line)
