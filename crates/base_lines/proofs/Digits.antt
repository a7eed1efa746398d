use Rattle.std.proofs.Common.{ℕ, ◌+◌, ◌-◌, ◌*◌, ◌^◌, ◌<◌, ◌≤◌, Bool, zero, suc, List, [], ◌∷◌}
use Rattle.std.proofs.Common.{length, take, fold, refl, arith, IsTrue}
use Rattle.std.specs.List.{list_all}
use Rattle.std.proofs.lemmas.Bool.{and_parts, and_from}
use Rattle.std.proofs.lemmas.Bool.Decides.{nat_tests}
use Rattle.std.proofs.lemmas.List.{length-take}
use Rattle.std.proofs.Math.Nat.{pow-le-pow_right, pow-succ', mul-le-mul_right}
use Rattle.base_lines.specs.Bytes.{is_digit, number_of}

small_digit : (digit : ℕ) → IsTrue (is_digit digit) → digit - 48 ≤ 9
small_digit digit h = grind (arith, nat_tests)

grown : (p from digit : ℕ) → digit ≤ 9 → (10 * from + digit + 1) * p ≤ (from + 1) * (10 * p)
grown p from digit small =
    grind (
      arith,
      mul-le-mul_right p (let h : 10 * from + digit + 1 ≤ 10 * from + 10 = omega arith in h),
    )

-- how large a number can be once these digits have followed it
number_from-lt : (digits : List ℕ) (from : ℕ) → IsTrue (list_all is_digit digits)
    → fold (λ number digit. 10 * number + (digit - 48)) from digits
    < (from + 1) * 10 ^ length digits
number_from-lt [] from all = omega arith
number_from-lt (digit ∷ digits) from all =
    let parts = and_parts (is_digit digit) (list_all is_digit digits) all in
    let later = number_from-lt digits (10 * from + (digit - 48)) parts.1 in
    let more = grown (10 ^ length digits) from (digit - 48) (small_digit digit parts.0) in
    rw (pow-succ' 10 (length digits)) (omega (arith, later, more))

pub number_of-lt : (digits : List ℕ) → IsTrue (list_all is_digit digits)
    → number_of digits < 10 ^ length digits
number_of-lt digits all = omega (arith, number_from-lt digits 0 all)

list_all-take : (test : ℕ → Bool) (i : ℕ) (bytes : List ℕ) → IsTrue (list_all test bytes)
    → IsTrue (list_all test (take i bytes))
list_all-take test zero bytes all = refl
list_all-take test (suc i) [] all = refl
list_all-take test (suc i) (byte ∷ bytes) all =
    let parts = and_parts (test byte) (list_all test bytes) all in
    and_from (test byte) (list_all test (take i bytes)) parts.0 (list_all-take test i bytes parts.1)

-- a number of nine digits has room for one more
pub number_of-take-lt : (digits : List ℕ) (i : ℕ) → IsTrue (list_all is_digit digits) → i < 10
    → number_of (take i digits) < 10 ^ 9
number_of-take-lt digits i all few =
    let short : length (take i digits) ≤ 9 = simp length-take (omega arith) in
    omega (
      arith,
      number_of-lt (take i digits) (list_all-take is_digit i digits all),
      pow-le-pow_right {n = 10} (omega arith) short,
    )

pub ruleset numbers = (number_of-take-lt)
