-- Numbers that are cut to a greatest one.
use Rattle.std.proofs.Common.{◌≡◌, ℕ, ◌+◌, ◌-◌, ◌*◌, List, [], ◌∷◌, fold, min, refl, arith}
use Rattle.base_lines.specs.Bytes.{number_of}

capped_step : (most number digit : ℕ)
    → min (10 * min number most + (digit - 48)) most ≡ min (10 * number + (digit - 48)) most
capped_step most number digit = omega arith

-- a number that is cut at each digit is the same as one that is cut at the end
fold-capped : (most : ℕ) (digits : List ℕ) (from : ℕ)
    → fold (λ number digit. min (10 * number + (digit - 48)) most) (min from most) digits
    ≡ min (fold (λ number digit. 10 * number + (digit - 48)) from digits) most
fold-capped most [] from = refl
fold-capped most (digit ∷ digits) from =
    rw (capped_step most from digit) (fold-capped most digits (10 * from + (digit - 48)))

pub number_capped : (most : ℕ) (digits : List ℕ)
    → fold (λ number digit. min (10 * number + (digit - 48)) most) 0 digits
    ≡ min (number_of digits) most
number_capped most digits =
    let e : min 0 most ≡ 0 = omega arith in rw e at (fold-capped most digits 0)
