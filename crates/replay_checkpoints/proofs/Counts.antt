-- How many places spacing leaves room for.
use Rattle.std.proofs.Common.{◌≡◌, ℕ, ◌+◌, ◌*◌, ◌-◌, ◌/◌, ◌<◌, ◌≤◌, zero, suc, List, length, arith}
use Rattle.std.proofs.Common.{⊎_elim}
use Rattle.std.proofs.Math.Nat.{suc-mul, zero-mul, le-div_iff_mul-le}
use Rattle.std.proofs.lemmas.Bool.{cases_lt}
use Rattle.std.specs.Prelude.{slice_index}
use Rattle.replay_checkpoints.specs.Spacing.{IsSpacedFrom}

-- no place is past the end
reaches : (start K : ℕ) (places : List ℕ) (n : ℕ) → IsSpacedFrom start K places n → (d i : ℕ)
    → i + d + 1 ≡ length places → slice_index places i ≤ n
reaches start K places n s zero i h = s.within i (omega arith)
reaches start K places n s (suc d) i h =
    let next : slice_index places (i + 1) ≤ n =
    reaches start K places n s d (i + 1) (omega arith) in
    let up : slice_index places i < slice_index places (i + 1) = s.rising i (omega arith) in
    omega arith

-- two gaps at a time, the places rise by K + 1
climbs : (start K : ℕ) (places : List ℕ) (n : ℕ) → IsSpacedFrom start K places n → (j i : ℕ)
    → i ≡ 2 * j → i < length places → start + j * (K + 1) ≤ slice_index places i
climbs start K places n s zero i e h =
    let at_start : i ≡ 0 = omega arith in
    rw (at_start, zero-mul) (omega (arith, s.first))
climbs start K places n s (suc j) i e h =
    let below : start + j * (K + 1) ≤ slice_index places (2 * j) =
    climbs start K places n s j (2 * j) (omega arith) (omega arith) in
    let gap : slice_index places (2 * j) + K < slice_index places (2 * j + 2) =
    s.apart (2 * j) (omega arith) in
    let here : i ≡ 2 * j + 2 = omega arith in
    rw (here, suc-mul) (omega arith)

pub count_from : (start K : ℕ) (places : List ℕ) (n lines : ℕ) → IsSpacedFrom start K places n
    → n ≤ start + lines → length places ≤ 2 * (lines / (K + 1)) + 2
count_from start K places n lines s h =
    let quotient : ℕ = lines / (K + 1) in
    ⊎_elim (λ many.
    let low = climbs start K places n s (quotient + 1) (2 * quotient + 2) (omega arith) many in
    let high =
    reaches start K places n s (length places - (2 * quotient + 3)) (2 * quotient + 2)
    (omega arith) in
    let fits : quotient + 1 ≤ quotient = (le-div_iff_mul-le (omega arith)).1 (omega arith) in
    absurd (omega arith))
    (λ few. few) (cases_lt (2 * quotient + 2) (length places))

pub place_within : (start K : ℕ) (places : List ℕ) (n : ℕ) → IsSpacedFrom start K places n → (i : ℕ)
    → i < length places → slice_index places i ≤ n
place_within start K places n s i h =
    reaches start K places n s (length places - (i + 1)) i (omega arith)
