-- No state scores more than the greatest score.
use Rattle.std.proofs.Common.{ℕ, ◌+◌, ◌-◌, ◌≤◌, Bool, cond, true, false, List, [], ◌∷◌, arith}
use Rattle.std.proofs.Common.{Option, Some, None}
use Rattle.std.proofs.lemmas.List.Sums.{sum_by-le-sum_by}
use Rattle.cave_data.specs.CaveView.{CaveView}
use Rattle.cave_world.specs.declared.ending.Ending.{Ending}
use Rattle.cave_world.specs.declared.state.State.{State}
use Rattle.turn_scene.specs.Treasures.{known_treasures}
use Rattle.turn_ends.specs.Score.{ScoreRow, points_by, most_by, worth, is_seen, is_safe}
use Rattle.turn_ends.specs.Score.{treasure_rows, treasures_row, life_points, escape_points}
use Rattle.turn_ends.specs.Score.{has_other_end, has_dwarves_up, is_closing, closed_points}
use Rattle.turn_ends.specs.Score.{has_magazine_there, score_rows, score_of, max_score_of}

-- each row counts at most its most
abbrev AreWithin : State → List ScoreRow → Type 0
AreWithin s [] = Unit {0}
AreWithin s (r ∷ rows) = (r.points s ≤ r.most) × AreWithin s rows

both_within : (a b m n : ℕ) → a ≤ m → b ≤ n → a + b ≤ m + n
both_within a b m n one more = omega (arith, one, more)

-- and so do rows together
rows_within : (s : State) (rows : List ScoreRow) → AreWithin s rows
    → points_by rows s ≤ most_by rows
rows_within s [] each = omega arith
rows_within s (r ∷ rows) each =
    both_within (r.points s) (points_by rows s) r.most (most_by rows) each.0
    (rows_within s rows each.1)

-- what counts if something holds
given_within : (b : Bool) (n most : ℕ) → n ≤ most → cond b n 0 ≤ most
given_within true n most h = h
given_within false n most h = omega arith

so_within : (b : Bool) (n : ℕ) → cond b n 0 ≤ n
so_within b n = given_within b n n (omega arith)

treasure_within : (cave : CaveView) (s : State) (x : ℕ)
    → points_by (treasure_rows cave x) s ≤ most_by (treasure_rows cave x)
unfolding treasure_rows
treasure_within cave s x =
    rows_within s (treasure_rows cave x)
    (so_within (is_seen x s) 2, (so_within (is_safe cave x s) (worth cave x - 2), tt))

treasures_within : (cave : CaveView) (s : State)
    → (treasures_row cave).points s ≤ (treasures_row cave).most
treasures_within cave s =
    sum_by-le-sum_by (λ x. points_by (treasure_rows cave x) s) (λ x. most_by (treasure_rows cave x))
    (known_treasures cave) (treasure_within cave s)

escape_within : (how : Option Ending) → escape_points how ≤ 45
escape_within None = omega arith
escape_within (Some Ending.Quit) = omega arith
escape_within (Some Ending.Killed) = omega arith
escape_within (Some Ending.Klutz) = omega arith
escape_within (Some Ending.WrongWay) = omega arith
escape_within (Some Ending.Success) = omega arith

points_within : (cave : CaveView) (s : State)
    → points_by (score_rows cave) s ≤ most_by (score_rows cave)
unfolding score_rows
points_within cave s =
    rows_within s (score_rows cave) (
      treasures_within cave s,
      (
        life,
        (
          so_within (has_other_end s) 4,
          (
            so_within (has_dwarves_up s) 25,
            (
              so_within (is_closing s) 25,
              (closed, (so_within (has_magazine_there cave s) 1, (so_within true 2, tt))),
            ),
          ),
        ),
      ),
    )
  where
    life : life_points s ≤ 30
    life = omega arith

    closed : closed_points s ≤ 45
    closed =
        given_within s.closing.is_closed (escape_points s.ending) 45 (escape_within s.ending)

pub score_within : (cave : CaveView) (s : State) → score_of cave s ≤ max_score_of cave
unfolding score_of max_score_of
score_within cave s = omega (arith, points_within cave s)

pub ruleset most = score_within
