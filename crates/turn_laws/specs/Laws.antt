-- Laws of the game: each says what a line does to any state in any cave.
use Rattle.std.specs.Prelude.{◌≡◌, ◌≤◌, ◌⊎◌, ℕ, negsuc, ◌≤ℤ◌, Bool, false, true, ◌&&◌, not, List}
use Rattle.std.specs.Prelude.{[], Option, None, Some, is_some, if◌then◌else◌}
use Rattle.cave_data.specs.CaveView.{CaveView}
use Rattle.base_lines.specs.LogLine.{IsSeedLine, log_line}
use Rattle.base_lines.specs.declared.log_line.LogLine.{LogLine}
use Rattle.cave_world.specs.declared.ending.Question.{Question}
use Rattle.cave_world.specs.declared.state.State.{State}
use Rattle.turn_scene.specs.Places.{building_place, start_place}
use Rattle.turn_scene.specs.Scene.{Scene}
use Rattle.turn_clocks.specs.Clocks.{tick_clocks}
use Rattle.turn_clocks.specs.Lamp.{burn, can_change_batteries}
use Rattle.turn_scene.specs.Rows.{deed, all_hold}
use Rattle.turn_ends.specs.Questions.{is_dragon}
use Rattle.cave_turn.specs.Answers.{answer_in, answers, without_question, is_yes}
use Rattle.cave_turn.specs.Commands.{begin_command}
use Rattle.cave_turn.specs.Turns.{Turn, turn_on_line, start_of_game, with_seed, silent_turn}

abbrev pub HasEnded : State → Type 0
HasEnded s = is_some s.ending ≡ true

abbrev pub IsNoSeedLine : List ℕ → Type 0
IsNoSeedLine line = (seed : ℕ) → ¬ IsSeedLine line seed

-- nothing is said, no turn passes, and nothing changes except the random stream at a seed line
pub record IsQuiet (s : State) (line : List ℕ) (t : Turn) : Type 0 where
  pub says_nothing : t.parts ≡ []
  pub no_turn : t.ticked ≡ false
  pub same : t.state ≡ record s { stream = t.state.stream }
  pub same_stream : IsNoSeedLine line → t.state ≡ s

-- after the end every line is quiet
abbrev pub EndIsQuiet : Type 0
EndIsQuiet =
    (cave : CaveView) (s : State) (line : List ℕ) → HasEnded s
    → IsQuiet s line (turn_on_line cave s line)

-- a seed line changes only the random stream, says nothing and is no turn
abbrev pub SeedsAlone : Type 0
SeedsAlone =
    (cave : CaveView) (s : State) (line : List ℕ) (seed : ℕ) → IsSeedLine line seed
    → turn_on_line cave s line ≡ silent_turn (with_seed s seed)

-- input is any line that is not a comment, not blank and not a seed line
abbrev pub is_input_kind : LogLine → Bool
is_input_kind LogLine.Comment = false
is_input_kind LogLine.Blank = false
is_input_kind (LogLine.Seed seed) = false
is_input_kind LogLine.Input = true

abbrev pub is_input : List ℕ → Bool
is_input line = is_input_kind (log_line line)

-- a line leaves a question unanswered, and is a command: anything except yes, if the player is
-- asked whether to fight the dragon
abbrev pub leaves : CaveView → List ℕ → Question → Bool
leaves cave line question = is_dragon question && not (is_yes (answer_in cave line))

-- no question is open that the line answers
abbrev pub is_no_answer : CaveView → List ℕ → Option Question → Bool
is_no_answer cave line None = true
is_no_answer cave line (Some question) = leaves cave line question

-- a command is input while the game goes on that answers no question
abbrev pub is_command : CaveView → State → List ℕ → Bool
is_command cave s line =
    is_input line && not (is_some s.ending) && is_no_answer cave line s.question

-- a line answers the question about the dragon only by yes: any other is a command
abbrev pub DragonIsFoughtOrLeft : Type 0
DragonIsFoughtOrLeft =
    (cave : CaveView) (line : List ℕ)
    → answers cave line Question.Dragon ≡ is_yes (answer_in cave line)

-- turns are counted for commands, and for nothing else
abbrev pub CommandsTick : Type 0
CommandsTick =
    (cave : CaveView) (s : State) (line : List ℕ)
    → (turn_on_line cave s line).ticked ≡ is_command cave s line

-- this holds as a game begins, and each line preserves it, in any cave
pub record Lasts (Holds : CaveView → State → Type 0) : Type 0 where
  pub start : (cave : CaveView) (seed : ℕ) → Holds cave (start_of_game cave seed).state
  pub kept :
      (cave : CaveView) (s : State) (line : List ℕ) → Holds cave s
      → Holds cave (turn_on_line cave s line).state

-- there are at most three deaths, and after the third the game has ended
pub record HasFewDeaths (s : State) : Type 0 where
  pub at_most : s.tallies.deaths ≤ 3
  pub last : s.tallies.deaths ≡ 3 → HasEnded s

-- this holds as a game begins, and each line preserves it
abbrev pub FewDeaths : Type 0
FewDeaths = Lasts (λ cave s. HasFewDeaths s)

-- the player is at place 0, which is no place, only if the game has ended, or if the player died
-- and is asked whether to come back
abbrev pub IsSomewhere : State → Type 0
IsSomewhere s = s.trail.here ≡ 0 → HasEnded s ⊎ (s.question ≡ Some Question.Die)

-- this holds as a game begins in a cave whose first place isn't 0, and each line preserves it in a
-- cave whose building, where the dead come back, isn't place 0
pub record PlayerIsSomewhere : Type 0 where
  pub start :
      (cave : CaveView) (seed : ℕ) → 1 ≤ start_place cave
      → IsSomewhere (start_of_game cave seed).state
  pub kept :
      (cave : CaveView) (s : State) (line : List ℕ) → 1 ≤ building_place cave → IsSomewhere s
      → IsSomewhere (turn_on_line cave s line).state

-- the lamp gains by the price of two questions: that for the instructions, and that of a hint
abbrev pub is_priced : Question → Bool
is_priced Question.Welcome = true
is_priced (Question.Take hint) = true
is_priced _ = false

-- the player says yes to such a question
abbrev pub pays : CaveView → List ℕ → Option Question → Bool
pays cave line None = false
pays cave line (Some question) = is_yes (answer_in cave line) && is_priced question

-- the lamp isn't reached if the clocks closed the cave
abbrev pub unless_closed : Bool → Scene → Option Scene
unless_closed closed p = if closed then None else Some p

-- the scene after the clocks, in which the lamp goes on
abbrev pub before_lamp : CaveView → Scene → Option Scene
before_lamp cave p = let a = tick_clocks (deed cave tt p) in unless_closed a.step a.scene

-- the lamp is reached, and its batteries are changed: they can be changed after a turn is burnt
abbrev pub is_changed : CaveView → Option Scene → Bool
is_changed cave None = false
is_changed cave (Some p) = all_hold can_change_batteries (burn (deed cave tt p))

-- the lamp gets new batteries in a command that begins in a state
abbrev pub gets_batteries : CaveView → State → Bool
gets_batteries cave s = is_changed cave (before_lamp cave (begin_command cave s))

-- a line is a command in which the lamp gets new batteries; a question that it leaves is closed
abbrev pub brings_batteries : CaveView → State → List ℕ → Bool
brings_batteries cave s line = is_command cave s line && gets_batteries cave (without_question s)

-- if the lamp's charge is at least -1, only the instructions, a hint and, in a command, new
-- batteries raise it
abbrev pub LampBurnsDown : Type 0
LampBurnsDown =
    (cave : CaveView) (s : State) (line : List ℕ) → negsuc 0 ≤ℤ s.lamp.charge
    → pays cave line s.question ≡ false → brings_batteries cave s line ≡ false
    → (turn_on_line cave s line).state.lamp.charge ≤ℤ s.lamp.charge
