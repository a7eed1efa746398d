-- What a line of a log does to a game.
use Rattle.std.specs.Prelude.{ℕ, Bool, true, false, if◌then◌else◌, List, [], ◌∷◌, Option, Some}
use Rattle.std.specs.Prelude.{None}
use Rattle.base_lines.specs.LogLine.{log_line}
use Rattle.base_lines.specs.declared.log_line.LogLine.{LogLine}
use Rattle.data_rows.specs.declared.role.Role.TheVariants as role
use Rattle.cave_data.specs.CaveView.{CaveView}
use Rattle.cave_words.specs.Stream.{stream_of_seed}
use Rattle.cave_world.specs.declared.ending.Ending.{Ending}
use Rattle.cave_world.specs.declared.ending.Question.{Question}
use Rattle.cave_world.specs.declared.part.Part.{Part}
use Rattle.cave_world.specs.declared.state.State.{State}
use Rattle.turn_scene.specs.Scene.{Scene}
use Rattle.turn_ends.specs.Begin.{begun_state}
use Rattle.cave_world.specs.declared.tables.RuleRow.{RuleRow}
use Rattle.cave_turn.specs.Answers.{after_answer, answers, without_question}
use Rattle.cave_turn.specs.Commands.{after_command}

-- the state after a line, what the line says, and whether it is a turn of the game
pub record Turn : Type 0 where
  pub state : State
  pub parts : List Part
  pub ticked : Bool

-- nothing is said, and no turn passes
abbrev pub silent_turn : State → Turn
silent_turn s = record { state = s; parts = []; ticked = false }

abbrev pub turn_of : Bool → Scene → Turn
turn_of ticked p = record { state = p.state; parts = p.parts; ticked = ticked }

-- a line of input: nothing after the end, an answer if a question is open, and otherwise a command,
-- which is a turn
abbrev pub turn_of_input : CaveView → List ℕ → Option Ending → Option Question → State → Turn
turn_of_input cave line (Some ending) question s = silent_turn s
turn_of_input cave line None (Some question) s =
    if answers cave line question then turn_of false (after_answer cave question line s)
    else turn_of true (after_command cave line (without_question s))
turn_of_input cave line None None s = turn_of true (after_command cave line s)

abbrev pub with_seed : State → ℕ → State
with_seed s seed = record s { stream = stream_of_seed seed }

-- a seed line changes only the random stream, in any state
abbrev pub turn_on_log_line : CaveView → List ℕ → LogLine → State → Turn
turn_on_log_line cave line (LogLine.Seed seed) s = silent_turn (with_seed s seed)
turn_on_log_line cave line LogLine.Input s = turn_of_input cave line s.ending s.question s
turn_on_log_line cave line _ s = silent_turn s

unfoldable pub turn_on_line : CaveView → State → List ℕ → Turn
turn_on_line cave s line = turn_on_log_line cave line (log_line line) s

-- the rows of the rules that are noted on a line of input
abbrev pub rows_of_input : CaveView → List ℕ → Option Ending → Option Question → State
    → List RuleRow
rows_of_input cave line (Some ending) question s = []
rows_of_input cave line None (Some question) s =
    if answers cave line question then (after_answer cave question line s).rows
    else (after_command cave line (without_question s)).rows
rows_of_input cave line None None s = (after_command cave line s).rows

abbrev pub rows_on_log_line : CaveView → List ℕ → LogLine → State → List RuleRow
rows_on_log_line cave line LogLine.Input s = rows_of_input cave line s.ending s.question s
rows_on_log_line cave line _ s = []

-- the rows of the rules that are noted on a line of a log
unfoldable pub rows_on_line : CaveView → State → List ℕ → List RuleRow
rows_on_line cave s line = rows_on_log_line cave line (log_line line) s

-- a state, and what is said as the game begins
pub record Beginning : Type 0 where
  pub state : State
  pub parts : List Part

-- a new game asks whether the player wants instructions
unfoldable pub start_of_game : CaveView → ℕ → Beginning
start_of_game cave seed =
    record { state = begun_state cave (stream_of_seed seed); parts = Part.Role role.Welcome ∷ [] }
