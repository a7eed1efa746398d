-- Sums over the treasures that a cave knows and over the hints that were taken.
use Rattle.std.proofs.Common.{◌≡◌, ℕ, suc, ◌+◌, ◌-◌, ◌<◌, ◌≤◌, Bool, cond, true, false, List, ◌∷◌}
use Rattle.std.proofs.Common.{refl, arith}
use Rattle.std.specs.List.{filter, sum_by, range_with_len}
use Rattle.std.proofs.lemmas.List.Sums.{sum_by-cons}
use Rattle.cave_data.specs.CaveView.{CaveView}
use Rattle.cave_world.specs.declared.state.State.{State}
use Rattle.turn_scene.specs.Treasures.{is_known, treasures, known_treasures}
use Rattle.turn_ends.specs.Score.{points_by, most_by, treasure_rows, treasures_row, hints_taken}
use Rattle.turn_ends.specs.Score.{price_of, hint_costs}
use Rattle.cave_world.specs.State.{is_hint_taken}

-- what those numbers from one on, up to an end, count of which something holds
abbrev sum_from : (ℕ → Bool) → (ℕ → ℕ) → ℕ → ℕ → ℕ
sum_from holds f first end = sum_by f (filter holds (range_with_len first (end - first)))

sum_more : (holds : ℕ → Bool) (f : ℕ → ℕ) (n end : ℕ) → n < end
    → sum_from holds f n end ≡ cond (holds n) (f n) 0 + sum_from holds f (n + 1) end
sum_more holds f n end h =
    let more : end - n ≡ suc (end - (n + 1)) = omega arith in
    rw more (chosen (holds n) (filter holds (range_with_len (n + 1) (end - (n + 1)))))
  where
    chosen : (b : Bool) (xs : List ℕ) → sum_by f (cond b (n ∷ xs) xs) ≡ cond b (f n) 0 + sum_by f xs
    chosen true xs = sum_by-cons f n xs
    chosen false xs = omega arith

sum_none : (holds : ℕ → Bool) (f : ℕ → ℕ) (n end : ℕ) → end ≤ n → sum_from holds f n end ≡ 0
sum_none holds f n end h = let none : end - n ≡ 0 = omega arith in rw none refl

-- what a treasure counts
abbrev points_of_one : CaveView → State → ℕ → ℕ
points_of_one cave s x = points_by (treasure_rows cave x) s

-- the most that it can count
abbrev most_of_one : CaveView → ℕ → ℕ
most_of_one cave x = most_by (treasure_rows cave x)

-- what the known treasures from a number on count
unfoldable pub points_from : CaveView → State → ℕ → ℕ
points_from cave s n = sum_from (is_known cave) (points_of_one cave s) n 80

pub points_all : (cave : CaveView) (s : State)
    → points_from cave s 50 ≡ (treasures_row cave).points s
unfolding points_from known_treasures treasures
points_all cave s = refl

pub points_none : (cave : CaveView) (s : State) (n : ℕ) → 80 ≤ n → points_from cave s n ≡ 0
unfolding points_from
points_none cave s n h = sum_none (is_known cave) (points_of_one cave s) n 80 h

pub points_more : (cave : CaveView) (s : State) (n : ℕ) → n < 80
    → points_from cave s n
    ≡ cond (is_known cave n) (points_by (treasure_rows cave n) s) 0 + points_from cave s (n + 1)
unfolding points_from
points_more cave s n h = sum_more (is_known cave) (points_of_one cave s) n 80 h

-- the most that they can count
unfoldable pub worth_from : CaveView → ℕ → ℕ
worth_from cave n = sum_from (is_known cave) (most_of_one cave) n 80

pub worth_all : (cave : CaveView) → worth_from cave 50 ≡ (treasures_row cave).most
unfolding worth_from known_treasures treasures
worth_all cave = refl

pub worth_none : (cave : CaveView) (n : ℕ) → 80 ≤ n → worth_from cave n ≡ 0
unfolding worth_from
worth_none cave n h = sum_none (is_known cave) (most_of_one cave) n 80 h

pub worth_more : (cave : CaveView) (n : ℕ) → n < 80
    → worth_from cave n
    ≡ cond (is_known cave n) (most_by (treasure_rows cave n)) 0 + worth_from cave (n + 1)
unfolding worth_from
worth_more cave n h = sum_more (is_known cave) (most_of_one cave) n 80 h

-- what those hints from a number on cost that were taken
unfoldable pub costs_from : CaveView → State → ℕ → ℕ
costs_from cave s n = sum_from (is_hint_taken s) (price_of cave) n 21

pub costs_all : (cave : CaveView) (s : State) → costs_from cave s 1 ≡ hint_costs cave s
unfolding costs_from hints_taken
costs_all cave s = refl

pub costs_none : (cave : CaveView) (s : State) (n : ℕ) → 21 ≤ n → costs_from cave s n ≡ 0
unfolding costs_from
costs_none cave s n h = sum_none (is_hint_taken s) (price_of cave) n 21 h

pub costs_more : (cave : CaveView) (s : State) (n : ℕ) → n < 21
    → costs_from cave s n ≡ cond (is_hint_taken s n) (price_of cave n) 0 + costs_from cave s (n + 1)
unfolding costs_from
costs_more cave s n h = sum_more (is_hint_taken s) (price_of cave) n 21 h

pub ruleset points = (points_all, points_none, points_more)

pub ruleset worths = (worth_all, worth_none, worth_more)

pub ruleset costs = (costs_all, costs_none, costs_more)
