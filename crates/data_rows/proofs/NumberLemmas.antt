-- Numbers of few digits are small.
use Rattle.std.proofs.Common.{ℕ, ◌<◌, ◌≤◌, ◌^◌, arith}
use Rattle.std.proofs.Math.Nat.{pow-le-pow_right}

pub digits_small : (v i : ℕ) → v < 10 ^ i → i ≤ 8 → v < 10 ^ 8
digits_small v i h l = let p : 10 ^ i ≤ 10 ^ 8 = pow-le-pow_right (omega arith) l in omega arith
