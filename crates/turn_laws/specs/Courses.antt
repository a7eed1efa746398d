-- Laws about what only ever goes one way in a game.
use Rattle.std.specs.Prelude.{◌≡◌, ◌≤◌, ◌<◌, ◌+◌, ◌⊎◌, ℕ, ℤ, pos, negsuc, ◌≤ℤ◌, ◌-ℤ◌, Bool, true}
use Rattle.std.specs.Prelude.{false, ◌&&◌, if◌then◌else◌, List, Option, Some, None, length, filter}
use Rattle.std.specs.Int.{int_min}
use Rattle.std.specs.Ordering.{int_eq}
use Rattle.cave_data.specs.CaveView.{CaveView}
use Rattle.data_rows.specs.declared.place_role.PlaceRole.TheVariants as place
use Rattle.cave_words.specs.declared.named.Named.TheVariants as name
use Rattle.cave_world.specs.declared.ending.Question.TheVariants as question
use Rattle.cave_world.specs.declared.state.State.{State}
use Rattle.turn_scene.specs.Homes.{home, second_home}
use Rattle.turn_scene.specs.Places.{outside_place, place_named}
use Rattle.turn_scene.specs.Scene.{Scene, thing}
use Rattle.turn_scene.specs.Reach.{has_prop}
use Rattle.cave_world.specs.Sight.{LAMP_ON}
use Rattle.cave_world.specs.State.{is_hint_taken, MAX_LOST}
use Rattle.turn_ends.specs.Score.{score_of, max_score_of}
use Rattle.cave_turn.specs.Answers.{without_question}
use Rattle.cave_turn.specs.Turns.{turn_on_line}
use Rattle.turn_laws.specs.Laws.{Lasts, before_lamp, brings_batteries, is_command, pays}
use Rattle.cave_turn.specs.Commands.{begin_command}

-- dwarves are awake once their anger is 2
abbrev pub AreAwake : State → Type 0
AreAwake s = 2 ≤ s.dwarves.anger

-- what one state has of the closing, of hints and of the dwarves, a later one has too
pub record IsAfter (s t : State) : Type 0 where
  pub closing : s.closing.is_closing ≡ true → t.closing.is_closing ≡ true
  pub closed : s.closing.is_closed ≡ true → t.closing.is_closed ≡ true
  pub hints : (h : ℕ) → is_hint_taken s h ≡ true → is_hint_taken t h ≡ true
  pub awake : AreAwake s → AreAwake t

-- no line takes back that the cave is closing or closed, that a hint was taken, or that the dwarves
-- are awake
abbrev pub NothingGoesBack : Type 0
NothingGoesBack =
    (cave : CaveView) (s : State) (line : List ℕ) → IsAfter s (turn_on_line cave s line).state

-- this many hints were taken
abbrev pub taken_hints : List Bool → ℕ
taken_hints is_taken = length (filter (λ taken. taken) is_taken)

-- no line makes them fewer
abbrev pub HintsNeverFall : Type 0
HintsNeverFall =
    (cave : CaveView) (s : State) (line : List ℕ)
    → taken_hints s.hints.is_taken ≤ taken_hints (turn_on_line cave s line).state.hints.is_taken

-- a closed cave is also closing, and so is a cave whose first clock has stopped
pub record ClosesInOrder (s : State) : Type 0 where
  pub closed : s.closing.is_closed ≡ true → s.closing.is_closing ≡ true
  pub stopped : s.closing.first_clock ≡ negsuc 0 → s.closing.is_closing ≡ true

-- this holds as a game begins, and each line preserves it
abbrev pub ClosedIsClosing : Type 0
ClosedIsClosing = Lasts (λ cave s. ClosesInOrder s)

-- no more treasures than before count as unseen, and no fewer as lost, up to the most that are
-- counted
pub record TreasuresAfter (s t : State) : Type 0 where
  pub unseen : t.tallies.unseen ≤ s.tallies.unseen
  pub lost : s.tallies.lost ≤ MAX_LOST → s.tallies.lost ≤ t.tallies.lost

-- this holds of each line
abbrev pub TreasuresGoOneWay : Type 0
TreasuresGoOneWay =
    (cave : CaveView) (s : State) (line : List ℕ)
    → TreasuresAfter s (turn_on_line cave s line).state

-- no state scores more than the greatest score of its cave
abbrev pub NoScoreIsGreater : Type 0
NoScoreIsGreater = (cave : CaveView) (s : State) → score_of cave s ≤ max_score_of cave

-- a closing cave never asks whether to come back from death
abbrev pub IsAskedInTime : State → Type 0
IsAskedInTime s = s.question ≡ Some question.Die → s.closing.is_closing ≡ false

-- this holds as a game begins, and each line preserves it
abbrev pub AskedInTime : Type 0
AskedInTime = Lasts (λ cave s. IsAskedInTime s)

-- deaths, of which at most three are counted, don't get fewer, and rise by at most one
pub record DeathsAfter (s t : State) : Type 0 where
  pub no_fewer : s.tallies.deaths ≤ 3 → s.tallies.deaths ≤ t.tallies.deaths
  pub one_more : t.tallies.deaths ≤ s.tallies.deaths + 1

-- this holds of each line, if a closing cave never asks whether to come back
abbrev pub DeathsComeOneByOne : Type 0
DeathsComeOneByOne =
    (cave : CaveView) (s : State) (line : List ℕ) → IsAskedInTime s
    → DeathsAfter s (turn_on_line cave s line).state

-- the places outside the cave are those from 1 to the last of them
abbrev pub IsOutsideCave : CaveView → ℕ → Type 0
IsOutsideCave cave place = (1 ≤ place) × (place ≤ outside_place cave)

-- the places where rules put the player aren't outside: the northeast end of the repository, and
-- where the dragon dies, which is between its places
pub record PutsInside (cave : CaveView) : Type 0 where
  pub repository : (ne : ℕ) → place_named cave place.Ne ≡ Some ne → ¬ IsOutsideCave cave ne
  pub dragon : ¬ IsOutsideCave cave (home cave (thing cave name.Dragon))
  pub second : ¬ IsOutsideCave cave (second_home cave (thing cave name.Dragon))

-- a line that leaves the cave closing leaves the player outside only if the player was there before
abbrev pub NobodyGetsOut : Type 0
NobodyGetsOut =
    (cave : CaveView) (s : State) (line : List ℕ) → PutsInside cave → IsAskedInTime s
    → (let t = (turn_on_line cave s line).state in
    t.closing.is_closing ≡ true → IsOutsideCave cave t.trail.here → t.trail.here ≡ s.trail.here)

-- the lamp is reached while it is lit
abbrev pub is_lit : CaveView → Option Scene → Bool
is_lit cave None = false
is_lit cave (Some p) = has_prop p.state (thing cave name.Lamp) LAMP_ON

-- a line is a command in which the lamp burns
abbrev pub burns : CaveView → State → List ℕ → Bool
burns cave s line =
    is_command cave s line
    && is_lit cave (before_lamp cave (begin_command cave (without_question s)))

-- the charge after a turn in which the lamp burns, or doesn't: the lamp goes out as its last turn
-- is burnt
abbrev pub charge_after : Bool → ℤ → ℤ
charge_after burns charge =
    if burns then (if int_eq charge (pos 1) then negsuc 0 else charge -ℤ pos 1) else charge

-- a charge above 0 goes down by one in each command in which the lamp burns, and in no other line;
-- it also goes down to 35 if a treasure is found. Only the instructions, a hint and, in a command,
-- new batteries raise it
abbrev pub LampBurnsByOne : Type 0
LampBurnsByOne =
    (cave : CaveView) (s : State) (line : List ℕ) → pos 1 ≤ℤ s.lamp.charge
    → pays cave line s.question ≡ false → brings_batteries cave s line ≡ false
    → (let t = (turn_on_line cave s line).state in
    let charge = charge_after (burns cave s line) s.lamp.charge in
    (t.lamp.charge ≡ charge)
    ⊎ ((t.lamp.charge ≡ int_min charge (pos 35)) × (t.tallies.unseen < s.tallies.unseen)))
