-- The score, by a table of what counts. The same table gives the greatest score.
use Rattle.std.specs.Prelude.{ℕ, ◌-◌, ◌*◌, Bool, true, false, ◌==◌, if◌then◌else◌, not, List, []}
use Rattle.std.specs.Prelude.{◌∷◌, filter, Option, Some, None, ◌+◌, pos, ◌&&◌, ◌||◌, nat_lt, int_le}
use Rattle.std.specs.FinMap as map
use Rattle.std.specs.List.{sum_by, range_with_len}
use Rattle.base_lines.specs.Numbers.{LAST_HINT}
use Rattle.data_rows.specs.declared.place_role.PlaceRole.TheVariants as place
use Rattle.data_rows.specs.declared.rows.Hint.{Hint}
use Rattle.cave_data.specs.CaveView.{CaveView}
use Rattle.cave_words.specs.declared.named.Named.TheVariants as name
use Rattle.world_objects.specs.Objects.{is_first_at, prop_of}
use Rattle.cave_world.specs.declared.ending.Ending.{Ending}
use Rattle.cave_world.specs.declared.state.State.{State}
use Rattle.cave_world.specs.State.{LIVES, is_hint_taken}
use Rattle.turn_scene.specs.Scene.{thing}
use Rattle.turn_scene.specs.Places.{place_named, building_place}
use Rattle.turn_ends.specs.declared.scorer.Scorer.{Scorer}
use Rattle.turn_scene.specs.Reach.{has_prop}
use Rattle.turn_scene.specs.Treasures.{known_treasures}
use Rattle.turn_scene.specs.Props.{SEEN}

-- the points that a state has for what a row counts, and the most that a state can have for it
pub record ScoreRow : Type 0 where
  pub points : State → ℕ
  pub most : ℕ

-- the points of all rows together
abbrev pub points_by : List ScoreRow → State → ℕ
points_by [] s = 0
points_by (r ∷ rows) s = r.points s + points_by rows s

-- the most points of all rows together
abbrev pub most_by : List ScoreRow → ℕ
most_by [] = 0
most_by (r ∷ rows) = r.most + most_by rows

-- this many points if something holds
abbrev pub score_row : ℕ → (State → Bool) → ScoreRow
score_row n is_so = record { points = λ s. if is_so s then n else 0; most = n }

-- at most this many points, by what a state is like
abbrev pub score_row_up_to : ℕ → (State → ℕ) → ScoreRow
score_row_up_to most points = record { points = points; most = most }

-- rows for each of some objects
abbrev pub score_row_each : List ℕ → (ℕ → List ScoreRow) → ScoreRow
score_row_each xs rows = record {
  points = λ s. sum_by (λ x. points_by (rows x) s) xs;
  most = sum_by (λ x. most_by (rows x)) xs;
}

-- what a treasure is worth: less before the chest than after it; if there is no chest, each is
-- worth what one before a chest is
unfoldable pub worth : CaveView → ℕ → ℕ
worth cave x =
    let chest = thing cave name.Chest in
    if chest == 0 || nat_lt x chest then 12 else (if x == chest then 14 else 16)

abbrev pub is_seen : ℕ → State → Bool
is_seen x s = int_le (pos 0) (prop_of s.objects x)

-- a treasure is in the building with prop 0, as whole as it was found
abbrev pub is_safe : CaveView → ℕ → State → Bool
is_safe cave x s = is_first_at s.objects (building_place cave) x && has_prop s x SEEN

-- a treasure counts once it was seen, and the rest of its worth if it is safe
unfoldable pub treasure_rows : CaveView → ℕ → List ScoreRow
treasure_rows cave x =
    score_row 2 (is_seen x)
    ∷ score_row (worth cave x - 2) (is_safe cave x)
    ∷ []

-- each treasure that the cave knows
abbrev pub treasures_row : CaveView → ScoreRow
treasures_row cave = score_row_each (known_treasures cave) (treasure_rows cave)

-- all scores are below this number
abbrev pub END_OF_SCORES : ℕ
END_OF_SCORES = 10000

-- each remaining life
abbrev pub life_points : State → ℕ
life_points s = 10 * (LIVES - s.tallies.deaths)

-- the game has ended, but not as quit
abbrev pub is_other_end : Option Ending → Bool
is_other_end None = false
is_other_end (Some Ending.Quit) = false
is_other_end _ = true

abbrev pub has_other_end : State → Bool
has_other_end s = is_other_end s.ending

-- the dwarves aren't asleep
abbrev pub has_dwarves_up : State → Bool
has_dwarves_up s = not (s.dwarves.anger == 0)

abbrev pub is_closing : State → Bool
is_closing s = s.closing.is_closing

-- a closed cave, by how the game ended there
abbrev pub escape_points : Option Ending → ℕ
escape_points (Some Ending.Success) = 45
escape_points (Some Ending.WrongWay) = 30
escape_points (Some Ending.Klutz) = 25
escape_points _ = 10

abbrev pub closed_points : State → ℕ
closed_points s = if s.closing.is_closed then escape_points s.ending else 0

-- an object's first half is at a place, if the place is bound
abbrev pub lies_at : State → ℕ → Option ℕ → Bool
lies_at s x None = false
lies_at s x (Some place) = is_first_at s.objects place x

-- the magazine was left at Witt's End
abbrev pub has_magazine_there : CaveView → State → Bool
has_magazine_there cave s = lies_at s (thing cave name.Magazine) (place_named cave place.Witt)

-- what counts, before hints are paid for
unfoldable pub score_rows : CaveView → List ScoreRow
score_rows cave =
    treasures_row cave
    ∷ score_row_up_to 30 life_points
    ∷ score_row 4 has_other_end
    ∷ score_row 25 has_dwarves_up
    ∷ score_row 25 is_closing
    ∷ score_row_up_to 45 closed_points
    ∷ score_row 1 (has_magazine_there cave)
    ∷ score_row 2 (λ s. true)
    ∷ []

unfoldable pub hints_taken : State → List ℕ
hints_taken s = filter (is_hint_taken s) (range_with_len 1 LAST_HINT)

-- what a hint costs
abbrev pub price_in : Option Hint → ℕ
price_in None = 0
price_in (Some row) = row.points

unfoldable pub price_of : CaveView → ℕ → ℕ
price_of cave hint = price_in (map.get cave.hints hint)

abbrev pub hint_costs : CaveView → State → ℕ
hint_costs cave s = sum_by (price_of cave) (hints_taken s)

-- the score: what counts, less what hints cost, and not below 0
unfoldable pub score_of : CaveView → State → ℕ
score_of cave s = points_by (score_rows cave) s - hint_costs cave s

-- the greatest score: the most of each row
unfoldable pub max_score_of : CaveView → ℕ
max_score_of cave = most_by (score_rows cave)

abbrev pub scored_cave : Scorer → CaveView
scored_cave scorer = scorer.cave.now
