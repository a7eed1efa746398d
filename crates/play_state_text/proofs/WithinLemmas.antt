-- Numbers that are within their ranges.
use Rattle.std.proofs.Common.{◌≡◌, ℕ, ℤ, pos, negsuc, ◌+◌, ◌<◌, ◌≤◌, ◌^◌, arith, subst, ◌⊎◌, inl}
use Rattle.std.proofs.Common.{inr}
use Rattle.std.specs.Prelude.{◌≤ℤ◌}
use Rattle.std.proofs.lemmas.Bool.{cases_lt}
use Rattle.std.proofs.lemmas.Int.{ints}
use Rattle.world_objects.specs.Props.{HIGHEST_PROP, LOWEST_PROP}
use Rattle.cave_world.specs.Limits.{HIGHEST_MAGIC, LOWEST_MAGIC}
use Rattle.play_state_text.specs.Within.{IsSigned, IsUpTo}

signed_within : (z : ℤ) (least most : ℕ) → negsuc least ≤ℤ z → z ≤ℤ pos most → least < 2 ^ 63
    → most < 2 ^ 63 → IsSigned z
signed_within (pos n) least most low high few many = omega (arith, ints, high, many)
signed_within (negsuc n) least most low high few many = omega (arith, ints, low, few)

pub charge_within : (z : ℤ) → negsuc 0 ≤ℤ z → z ≤ℤ pos 100000 → IsSigned z
charge_within z low high = signed_within z 0 100000 low high (omega arith) (omega arith)

pub magic_within : (z : ℤ) → LOWEST_MAGIC ≤ℤ z → z ≤ℤ HIGHEST_MAGIC → IsSigned z
magic_within z low high = signed_within z 998 999 low high (omega arith) (omega arith)

pub prop_within : (z : ℤ) → LOWEST_PROP ≤ℤ z → z ≤ℤ HIGHEST_PROP → IsSigned z
prop_within z low high = signed_within z 99 101 low high (omega arith) (omega arith)

pub ruleset within = (charge_within, magic_within, prop_within)

-- what holds of each number up to one, and of the next, holds of each up to the next
pub one_more : {P : ℕ → Type 0} (last next n : ℕ) → next ≡ last + 1
    → ((m : ℕ) → IsUpTo last m → P m) → P next → IsUpTo (last + 1) n → P n
one_more {P = P} last next n is before here up = choose (cases_lt last n)
  where
    choose : (last < n) ⊎ (n ≤ last) → P n
    choose (inl more) = let same : next ≡ n = omega (arith, more, is, up.1) in subst P same here
    choose (inr less) = before n (up.0, less)
