-- The treasures and the hints one after another.
use Rattle.std.proofs.Common.{◌≡◌, ℕ, suc, ◌+◌, ◌-◌, ◌<◌, ◌≤◌, List, [], ◌∷◌, refl, arith}
use Rattle.std.specs.List.{range_with_len}
use Rattle.turn_scene.specs.Treasures.{treasures}

-- the treasures from a number on
unfoldable pub treasures_left : ℕ → List ℕ
treasures_left n = range_with_len n (80 - n)

pub treasures_all : treasures_left 50 ≡ treasures
unfolding treasures_left treasures
treasures_all = refl

pub treasures_none : (n : ℕ) → 80 ≤ n → treasures_left n ≡ []
unfolding treasures_left
treasures_none n h = let none : 80 - n ≡ 0 = omega arith in rw none refl

pub treasures_next : (n : ℕ) → n < 80 → treasures_left n ≡ n ∷ treasures_left (n + 1)
unfolding treasures_left
treasures_next n h = let more : 80 - n ≡ suc (80 - (n + 1)) = omega arith in rw more refl

pub ruleset treasures_walked = (treasures_all, treasures_none, treasures_next)

-- the hints from a number on
unfoldable pub hints_left : ℕ → List ℕ
hints_left n = range_with_len n (21 - n)

pub hints_all : hints_left 1 ≡ range_with_len 1 20
unfolding hints_left
hints_all = refl

pub hints_none : (n : ℕ) → 21 ≤ n → hints_left n ≡ []
unfolding hints_left
hints_none n h = let none : 21 - n ≡ 0 = omega arith in rw none refl

pub hints_next : (n : ℕ) → n < 21 → hints_left n ≡ n ∷ hints_left (n + 1)
unfolding hints_left
hints_next n h = let more : 21 - n ≡ suc (21 - (n + 1)) = omega arith in rw more refl

pub ruleset hints_walked = (hints_all, hints_none, hints_next)
