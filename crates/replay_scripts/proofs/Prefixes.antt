-- Leading digits of bytes that go on with something else.
use Rattle.std.proofs.Common.{◌≡◌, ℕ, false, List, [], ◌∷◌, ◌++◌, IsTrue, refl, ap, arith}
use Rattle.std.specs.List.{list_all}
use Rattle.std.proofs.lemmas.Bool.{and_parts}
use Rattle.std.proofs.lemmas.Bool.Decides.{nat_tests}
use Rattle.base_lines.specs.Bytes.{is_blank, is_digit, prefix_while, after_prefix}

-- the bytes are none, or begin with a blank
abbrev pub NoDigitFirst : List ℕ → Type 0
NoDigitFirst [] = Unit {0}
NoDigitFirst (byte ∷ bytes) = IsTrue (is_blank byte)

blank_no_digit : (byte : ℕ) → IsTrue (is_blank byte) → is_digit byte ≡ false
blank_no_digit byte blank = grind (arith, nat_tests)

-- digits end where a blank follows
pub prefix_while-digits : (digits rest : List ℕ) → IsTrue (list_all is_digit digits)
    → NoDigitFirst rest → prefix_while is_digit (digits ++ rest) ≡ digits
prefix_while-digits [] [] all first = refl
prefix_while-digits [] (byte ∷ rest) all first =
    let other = blank_no_digit byte first in rw other refl
prefix_while-digits (digit ∷ digits) rest all first =
    let parts = and_parts (is_digit digit) (list_all is_digit digits) all in
    let passes = parts.0 in
    rw passes (ap (λ xs. digit ∷ xs) (prefix_while-digits digits rest parts.1 first))

pub after_prefix-digits : (digits rest : List ℕ) → IsTrue (list_all is_digit digits)
    → NoDigitFirst rest → after_prefix is_digit (digits ++ rest) ≡ rest
after_prefix-digits [] [] all first = refl
after_prefix-digits [] (byte ∷ rest) all first =
    let other = blank_no_digit byte first in rw other refl
after_prefix-digits (digit ∷ digits) rest all first =
    let parts = and_parts (is_digit digit) (list_all is_digit digits) all in
    let passes = parts.0 in
    rw passes (after_prefix-digits digits rest parts.1 first)
