-- The numbers that the rows of words, of objects and of their places begin with or have.
use Rattle.std.proofs.Common.{◌≡◌, ◌⊎◌, inl, inr, ℕ, ℤ, pos, negsuc, ◌/◌, ◌%◌, ◌≤◌, Bool, true}
use Rattle.std.proofs.Common.{false, cond, ◌==◌, ◌&&◌, ◌||◌, nat_le, Result, Ok, Err, refl, sym, ap}
use Rattle.std.proofs.Common.{subst, arith}
use Rattle.std.proofs.lemmas.Bool.{and_parts, eqb-true}
use Rattle.std.proofs.lemmas.Bool.Decides.{nat_tests}
use Rattle.data_rows.specs.declared.error.Cause.{Cause}
use Rattle.data_rows.specs.declared.error.Cause.TheVariants.{OutOfRange}
use Rattle.data_rows.specs.declared.number.Number.{Number}
use Rattle.data_rows.specs.declared.number.Number.TheVariants.{Natural, Negative}
use Rattle.data_rows.specs.Rows.{object_or_prop, is_word_number, word_number, second_place}
use Rattle.data_rows.specs.RowGrammar.{IsWordNumber}
use Rattle.data_rows.specs.RowGrammar.{IsObjectOrProp, IsSecondPlace, is_place, is_immovable}

pub object_or_prop-read : (n : ℕ) → IsObjectOrProp n → object_or_prop (Natural n) ≡ Ok n
object_or_prop-read n (inl is) =
    let small : nat_le n 99 ≡ true = grind (arith, nat_tests, is.1) in rw small refl
object_or_prop-read n (inr (prop, small, is)) =
    let most : n ≤ 9900 = omega (arith, small, is) in
    let none : n % 100 ≡ 0 = omega (arith, is) in
    let both : (nat_le n 99 || (nat_le n 9900 && n % 100 == 0))
    ≡ true = grind (arith, nat_tests, most, none) in
    rw both refl

kinds-read : (n : ℕ) → (nat_le n 99 || (nat_le n 9900 && n % 100 == 0)) ≡ true → IsObjectOrProp n
kinds-read n e = at (nat_le n 99) refl (n == 0) refl e where
  at : (b : Bool) → nat_le n 99 ≡ b → (z : Bool) → (n == 0) ≡ z
      → (b || (nat_le n 9900 && n % 100 == 0)) ≡ true → IsObjectOrProp n
  at true small true zero h =
      let none : n ≡ 0 = eqb-true n 0 zero in
      inr (0, omega arith, omega (arith, none))
  at true small false other h =
      let above : 1 ≤ n = grind (arith, nat_tests, other) in
      let below : n ≤ 99 = grind (arith, nat_tests, small) in
      inl (above, below)
  at false large z is h =
      let both = and_parts (nat_le n 9900) (n % 100 == 0) h in
      let none : n % 100 ≡ 0 = eqb-true (n % 100) 0 both.1 in
      let most : n ≤ 9900 = grind (arith, nat_tests, both.0) in
      inr (n / 100, omega (arith, most), omega (arith, none))

pub read-object_or_prop : (x : Number) (n : ℕ) → object_or_prop x ≡ Ok n
    → (x ≡ Natural n) × IsObjectOrProp n
read-object_or_prop (Natural m) n is =
    at (nat_le m 99 || (nat_le m 9900 && m % 100 == 0)) refl is where
      at : (b : Bool) → (nat_le m 99 || (nat_le m 9900 && m % 100 == 0)) ≡ b
          → cond {A = Result ℕ Cause} b (Ok m) (Err OutOfRange) ≡ Ok n
          → (Natural m ≡ Natural n) × IsObjectOrProp n
      at false e h = cc
      at true e h =
          let same : m ≡ n = cc in
          (ap Natural same, subst IsObjectOrProp same (kinds-read m e))
read-object_or_prop (Negative m) n is = cc

is_word_number-from : (n : ℕ) → IsWordNumber n → is_word_number n ≡ true
is_word_number-from n (inl is) =
    let some : 1 ≤ n % 1000 = omega (arith, is.0, is.1) in
    grind (arith, nat_tests, some, is.1)
is_word_number-from n (inr (inl is)) =
    let some : 1 ≤ n % 1000 = omega (arith, is.0, is.1) in
    grind (arith, nat_tests, some, is.0, is.1)
is_word_number-from n (inr (inr (inl is))) =
    let some : 1 ≤ n % 1000 = omega (arith, is.0, is.1) in
    grind (arith, nat_tests, some, is.0, is.1)
is_word_number-from n (inr (inr (inr is))) =
    let some : 1 ≤ n % 1000 = omega (arith, is.0, is.1) in
    grind (arith, nat_tests, some, is.0, is.1)

-- a number of a class: its thousand and the last of the class are the bounds
from_class : (first last n : ℕ) (more : Bool) → (nat_le first n && nat_le n last || more) ≡ true
    → ((first ≤ n) × (n ≤ last)) ⊎ (more ≡ true)
from_class first last n more e = at (nat_le first n && nat_le n last) refl e where
  at : (b : Bool) → (nat_le first n && nat_le n last) ≡ b → (b || more) ≡ true
      → ((first ≤ n) × (n ≤ last)) ⊎ (more ≡ true)
  at true is h =
      let both = and_parts (nat_le first n) (nat_le n last) is in
      inl (grind (arith, nat_tests, both.0), grind (arith, nat_tests, both.1))
  at false is h = inr h

from_motion : (n : ℕ) (more : Bool) → (nat_le n 999 || more) ≡ true → (n ≤ 999) ⊎ (more ≡ true)
from_motion n more e = at (nat_le n 999) refl e where
  at : (b : Bool) → nat_le n 999 ≡ b → (b || more) ≡ true → (n ≤ 999) ⊎ (more ≡ true)
  at true is h = inl (grind (arith, nat_tests, is))
  at false is h = inr h

from-is_word_number : (n : ℕ) → is_word_number n ≡ true → IsWordNumber n
from-is_word_number n is =
    let both =
    and_parts (nat_le 1 (n % 1000))
    (nat_le n 999
    || (nat_le 1000 n && nat_le n 1100
    || (nat_le 2000 n && nat_le n 2099 || (nat_le 3000 n && nat_le n 3499)))) is in
    let some : 1 ≤ n % 1000 = grind (arith, nat_tests, both.0) in
    motion some (from_motion n _ both.1) where
      special : 1 ≤ n % 1000 → (nat_le 3000 n && nat_le n 3499) ≡ true → IsWordNumber n
      special some e =
          let range = and_parts (nat_le 3000 n) (nat_le n 3499) e in
          let low : 3000 ≤ n = grind (arith, nat_tests, range.0) in
          let high : n ≤ 3499 = grind (arith, nat_tests, range.1) in
          inr (inr (inr (omega (arith, some, low, high), high)))

      action : 1 ≤ n % 1000
          → ((2000 ≤ n) × (n ≤ 2099)) ⊎ ((nat_le 3000 n && nat_le n 3499) ≡ true) → IsWordNumber n
      action some (inl range) = inr (inr (inl (omega (arith, some, range.0, range.1), range.1)))
      action some (inr e) = special some e

      object : 1 ≤ n % 1000
          → ((1000 ≤ n) × (n ≤ 1100))
          ⊎ ((nat_le 2000 n && nat_le n 2099 || (nat_le 3000 n && nat_le n 3499)) ≡ true)
          → IsWordNumber n
      object some (inl range) = inr (inl (omega (arith, some, range.0, range.1), range.1))
      object some (inr e) = action some (from_class 2000 2099 n _ e)

      motion : 1 ≤ n % 1000
          → (n ≤ 999)
          ⊎ ((nat_le 1000 n && nat_le n 1100
          || (nat_le 2000 n && nat_le n 2099 || (nat_le 3000 n && nat_le n 3499))) ≡ true)
          → IsWordNumber n
      motion some (inl few) = inl (omega (arith, some, few), few)
      motion some (inr e) = object some (from_class 1000 1100 n _ e)

pub word_number-read : (n : ℕ) → IsWordNumber n → word_number (Natural n) ≡ Ok n
word_number-read n is =
    ap (λ b. cond {A = Result ℕ Cause} b (Ok n) (Err OutOfRange)) (is_word_number-from n is)

pub read-word_number : (x : Number) (n : ℕ) → word_number x ≡ Ok n
    → (x ≡ Natural n) × IsWordNumber n
read-word_number (Natural m) n is = at (is_word_number m) refl is where
  at : (b : Bool) → is_word_number m ≡ b
      → cond {A = Result ℕ Cause} b (Ok m) (Err OutOfRange) ≡ Ok n
      → (Natural m ≡ Natural n) × IsWordNumber n
  at false e h = cc
  at true e h =
      let same : m ≡ n = cc in
      (ap Natural same, subst IsWordNumber same (from-is_word_number m e))
read-word_number (Negative m) n is = cc

pub second-read : (x : Number) (place : ℤ) → IsSecondPlace x place → second_place x ≡ Ok place
second-read x place (is_place {n = n} few) =
    let most : nat_le n 300 ≡ true = grind (arith, nat_tests, few) in rw most refl
second-read x place is_immovable = refl

pub read-second : (x : Number) (place : ℤ) → second_place x ≡ Ok place → IsSecondPlace x place
read-second (Natural n) place is = at (nat_le n 300) refl is where
  at : (b : Bool) → nat_le n 300 ≡ b
      → cond {A = Result ℤ Cause} b (Ok (pos n)) (Err OutOfRange) ≡ Ok place
      → IsSecondPlace (Natural n) place
  at false e h = cc
  at true e h =
      let same : pos n ≡ place = cc in
      subst (IsSecondPlace (Natural n)) same (is_place (grind (arith, nat_tests, e)))
read-second (Negative n) place is = at (n == 1) refl is where
  at : (b : Bool) → (n == 1) ≡ b
      → cond {A = Result ℤ Cause} b (Ok (negsuc 0)) (Err OutOfRange) ≡ Ok place
      → IsSecondPlace (Negative n) place
  at false e h = cc
  at true e h =
      let same : negsuc 0 ≡ place = cc in
      subst (IsSecondPlace (Negative n)) same
      (subst (λ m. IsSecondPlace (Negative m) (negsuc 0)) (sym (eqb-true n 1 e)) is_immovable)
