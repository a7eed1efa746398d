-- What holds of each state that a game reaches.
use Rattle.std.specs.Prelude.{◌≡◌, ◌≤◌, ◌⊎◌, ℕ, ℤ, pos, negsuc, ◌≤ℤ◌, true, List, [], ◌∷◌}
use Rattle.std.specs.Prelude.{Option, None, Some, is_some}
use Rattle.std.specs.FinMap as map
use Rattle.cave_data.specs.CaveView.{CaveView}
use Rattle.cave_world.specs.declared.ending.Question.{Question}
use Rattle.cave_world.specs.declared.state.State.{State}
use Rattle.turn_scene.specs.Places.{building_place, start_place}
use Rattle.turn_ends.specs.Score.{score_of, max_score_of}
use Rattle.cave_turn.specs.Turns.{turn_on_line, start_of_game}
use Rattle.turn_laws.specs.OneList.{AreInOneList}
use Rattle.turn_laws.specs.Courses.{ClosesInOrder, IsAskedInTime}
use Rattle.turn_laws.specs.DwarfLaws.{HasFewDwarves}
use Rattle.turn_laws.specs.Laws.{HasFewDeaths, IsSomewhere, Lasts}
use Rattle.turn_laws.specs.ObjectLaws.{HasFewInHands}

-- the state that lines of a log lead to, one after another
abbrev pub after_lines : CaveView → State → List (List ℕ) → State
after_lines cave s [] = s
after_lines cave s (line ∷ lines) = after_lines cave (turn_on_line cave s line).state lines

-- a game reaches a state: the start with some seed, followed by lines, leads to it
pub record IsReachable (cave : CaveView) (s : State) : Type 0 where
  pub seed : ℕ
  pub lines : List (List ℕ)
  pub leads : after_lines cave (start_of_game cave seed).state lines ≡ s

-- the clocks, the lamp and the counts of treasures, unseen and lost, stay within their bounds
pub record IsWithin (first second charge : ℤ) (unseen lost : ℕ) : Type 0 where
  pub first_clock : (negsuc 0 ≤ℤ first) × (first ≤ℤ pos 30)
  pub second_clock : (negsuc 0 ≤ℤ second) × (second ≤ℤ pos 50)
  pub lamp : (negsuc 0 ≤ℤ charge) × (charge ≤ℤ pos 100000)
  pub seen : unseen ≤ 30
  pub gone : lost ≤ 60000

abbrev pub HasBoundedNumbers : State → Type 0
HasBoundedNumbers s =
    IsWithin s.closing.first_clock s.closing.second_clock s.lamp.charge s.tallies.unseen
    s.tallies.lost

-- this holds as a game begins, and each line preserves it
abbrev pub StaysBounded : Type 0
StaysBounded = Lasts (λ cave s. HasBoundedNumbers s)

-- a question is open or the game has ended, or neither: never both
abbrev pub AsksOrEnds : State → Type 0
AsksOrEnds s = (s.question ≡ None) ⊎ (s.ending ≡ None)

-- this holds as a game begins, and each line preserves it
abbrev pub NeverBoth : Type 0
NeverBoth = Lasts (λ cave s. AsksOrEnds s)

-- the cave has each hint that a question is about
abbrev pub IsKnown : CaveView → Question → Type 0
IsKnown cave (Question.Hint hint) = is_some (map.get cave.hints hint) ≡ true
IsKnown cave (Question.Take hint) = is_some (map.get cave.hints hint) ≡ true
IsKnown cave _ = Unit {0}

abbrev pub IsOpenKnown : CaveView → Option Question → Type 0
IsOpenKnown cave None = Unit {0}
IsOpenKnown cave (Some asked) = IsKnown cave asked

-- this holds as a game begins, and each line preserves it
abbrev pub HintsAreKnown : Type 0
HintsAreKnown = Lasts (λ cave s. IsOpenKnown cave s.question)

-- neither the place where a game begins nor that where the dead come back is place 0
abbrev pub HasPlaces : CaveView → Type 0
HasPlaces cave = (1 ≤ start_place cave) × (1 ≤ building_place cave)

-- what holds of a state of a game
pub record IsLawful (cave : CaveView) (s : State) : Type 0 where
  pub deaths : HasFewDeaths s
  pub hands : HasFewInHands s
  pub one_place : AreInOneList s.objects
  pub closing : ClosesInOrder s
  pub asked : IsAskedInTime s
  pub either : AsksOrEnds s
  pub hint : IsOpenKnown cave s.question
  pub bounds : HasBoundedNumbers s
  pub score : score_of cave s ≤ max_score_of cave
  pub place : IsSomewhere s
  pub dwarves : HasFewDwarves s

-- it holds of each state that a game reaches in a cave with those places
abbrev pub ReachableIsLawful : Type 0
ReachableIsLawful =
    (cave : CaveView) (s : State) → HasPlaces cave → IsReachable cave s → IsLawful cave s
