-- What follows from tests of numbers.
use Rattle.std.proofs.Common.{◌≡◌, ℕ, true, false, eqb, arith}
use Rattle.std.proofs.lemmas.Bool.Decides.{nat_tests}

pub equal : (a b : ℕ) → eqb a b ≡ true → a ≡ b
equal a b h = grind (arith, nat_tests)

pub unequal : (a b : ℕ) → (a ≡ b → ⊥) → eqb a b ≡ false
unequal a b h = grind (arith, nat_tests)

pub apart : (a b : ℕ) → eqb a b ≡ false → a ≡ b → ⊥
apart a b h e = grind (arith, nat_tests)

pub itself : (a : ℕ) → eqb a a ≡ true
itself a = grind (arith, nat_tests)
