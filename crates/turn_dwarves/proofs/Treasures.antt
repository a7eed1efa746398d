-- The treasures one after another.
use Rattle.std.proofs.Common.{◌≡◌, ℕ, suc, ◌+◌, ◌-◌, ◌<◌, ◌≤◌, List, [], ◌∷◌, refl, arith}
use Rattle.std.specs.List.{range_with_len}
use Rattle.turn_scene.specs.Treasures.{treasures}

-- the treasures from a number on
unfoldable pub treasures_from : ℕ → List ℕ
treasures_from n = range_with_len n (80 - n)

pub treasures_all : treasures_from 50 ≡ treasures
unfolding treasures_from treasures
treasures_all = refl

pub treasures_none : (n : ℕ) → 80 ≤ n → treasures_from n ≡ []
unfolding treasures_from
treasures_none n h = let none : 80 - n ≡ 0 = omega arith in rw none refl

pub treasures_next : (n : ℕ) → n < 80 → treasures_from n ≡ n ∷ treasures_from (n + 1)
unfolding treasures_from
treasures_next n h = let more : 80 - n ≡ suc (80 - (n + 1)) = omega arith in rw more refl

pub ruleset walking = (treasures_all, treasures_none, treasures_next)
