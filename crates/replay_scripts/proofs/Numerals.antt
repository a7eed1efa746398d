-- What is written for a number is digits that write it.
use Rattle.std.proofs.Common.{◌≡◌, ℕ, ◌≤◌, List, length, fold, IsTrue, min, refl, ap, arith, true}
use Rattle.std.specs.Fmt.{decimal}
use Rattle.std.specs.List.{list_all}
use Rattle.std.proofs.lemmas.Bool.{and_parts}
use Rattle.std.proofs.lemmas.Bool.Decides.{nat_tests}
use Rattle.std.proofs.lemmas.Fmt.{digits_decimal, digits_value-decimal, decimal_nonempty}
use Rattle.std.proofs.lemmas.Fmt.{length-decimal-le}
use Rattle.std.proofs.lemmas.Str.Parse.{FoldsDigits, IsDigitsTest, IsNumeralModel, numerals_by_fold}
use Rattle.base_lines.specs.Bytes.{is_digit, number_of, with_digit}

abbrev AreDigits : List ℕ → Type 0
AreDigits digits = IsTrue (list_all is_digit digits)

tells : IsDigitsTest AreDigits
tells = record {
  empty = refl;
  parts = λ c cs h.
      let both = and_parts (is_digit c) (list_all is_digit cs) h in
      let low : 48 ≤ c = grind (arith, nat_tests, both.0) in
      let high : c ≤ 57 = grind (arith, nat_tests, both.0) in
      ((low, high), both.1);
  more = λ c cs within h.
      let digit : is_digit c ≡ true = grind (arith, nat_tests, within.0, within.1) in
      rw (digit, h) refl;
}

folds : FoldsDigits (λ n digits. fold with_digit n digits)
folds = record {
  empty = λ n. refl;
  more = λ n c cs within. ap (λ k. fold with_digit k cs) (omega arith);
}

own : IsNumeralModel AreDigits number_of
own = numerals_by_fold AreDigits tells (λ n digits. fold with_digit n digits) folds

pub all_digits : (n : ℕ) → n ≤ 4294967295 → IsTrue (list_all is_digit (decimal n))
all_digits n fits = digits_decimal own n (omega (arith, fits))

pub value : (n : ℕ) → n ≤ 4294967295 → n ≡ min (number_of (decimal n)) 4294967295
value n fits =
    let is = digits_value-decimal own n (omega (arith, fits)) in
    omega (arith, is, fits)

pub some_digits : (n : ℕ) → n ≤ 4294967295 → 1 ≤ length (decimal n)
some_digits n fits =
    let some = decimal_nonempty n (omega (arith, fits)) in omega (arith, some)

pub few_digits : (n : ℕ) → n ≤ 4294967295 → length (decimal n) ≤ 10
few_digits n fits = length-decimal-le 10 n (omega arith) (omega (arith, fits)) (omega (arith, fits))
