-- The moments of a play, one at each line, as whoever watches it sees them.
use Rattle.std.specs.Prelude.{ℕ, ◌+◌, Bool, if◌then◌else◌, List, [], ◌∷◌, ◌++◌}
use Rattle.std.specs.List.{flat_map}
use Rattle.cave_data.specs.CaveView.{CaveView}
use Rattle.cave_world.specs.declared.part.Part.{Part}
use Rattle.cave_world.specs.declared.state.State.{State}
use Rattle.cave_world.specs.declared.tables.RuleRow.{RuleRow}
use Rattle.cave_turn.specs.Turns.{rows_on_line, turn_on_line}
use Rattle.replay_edits.specs.Edit.{Game}
use Rattle.play_machine.specs.Machine.{cave_rules, rendering_of}
use Rattle.play_walk.specs.Walk.{walk_line, walk_opening}
use Rattle.play_walk.specs.Step.{step_head_row, step_row}

-- a line of a play: its place in the log, the turns up to and including it, whether it takes one
-- itself, the states before and after it, what is said at it, and the rows of the rules that are
-- noted at it
pub record Moment : Type 0 where
  pub place : ℕ
  pub line : List ℕ
  pub turns : ℕ
  pub ticked : Bool
  pub before : State
  pub after : State
  pub parts : List Part
  pub rows : List RuleRow

-- the line at a place, played in a state after this many turns
abbrev pub moment_at : CaveView → ℕ → ℕ → State → List ℕ → Moment
moment_at cave place turns state line =
    let turn = turn_on_line cave state line in record {
      place = place;
      line = line;
      turns = turns + (if turn.ticked then 1 else 0);
      ticked = turn.ticked;
      before = state;
      after = turn.state;
      parts = turn.parts;
      rows = rows_on_line cave state line;
    }

-- the moments of lines, the first of which has this place
abbrev pub moments_from : CaveView → ℕ → ℕ → State → List (List ℕ) → List Moment
moments_from cave place turns state [] = []
moments_from cave place turns state (line ∷ lines) =
    let here = moment_at cave place turns state line in
    here ∷ moments_from cave (place + 1) here.turns here.after lines

-- the moments of playing a game, from its first line to its last
abbrev pub moments_of : CaveView → Game → List Moment
moments_of cave game = moments_from cave 0 0 ((cave_rules cave).begun game.seed) game.log

-- what is noted of the play of a game: of its beginning, and then of each moment
abbrev pub noted_of : {Fact : Type 0} → (CaveView → State → List Part → List Fact)
    → (CaveView → Moment → List Fact) → CaveView → Game → List Fact
noted_of first_facts facts cave game =
    let rules = cave_rules cave in
    first_facts cave (rules.begun game.seed) (rules.greeting game.seed)
    ++ flat_map (facts cave) (moments_of cave game)

-- the object of the opening
abbrev pub opening_object : CaveView → State → List Part → List ℕ
opening_object cave begun greeting = walk_opening cave (rendering_of cave greeting 0) begun

-- the object of a line
abbrev pub moment_object : CaveView → Moment → List ℕ
moment_object cave moment =
    walk_line cave moment.place moment.line (rendering_of cave moment.parts moment.turns)
    moment.turns moment.before moment.after

-- the opening, and then the lines of playing the game, from its first line to its last
unfoldable pub walk_text : CaveView → Game → List ℕ
walk_text cave game = noted_of opening_object moment_object cave game

-- the row of a line
abbrev pub moment_row : CaveView → Moment → List ℕ
moment_row cave moment =
    step_row cave moment.place moment.line moment.turns moment.before moment.after

-- the names of the columns, and then the rows of the lines of playing the game, from its first line
-- to its last
unfoldable pub steps_text : CaveView → Game → List ℕ
steps_text cave game =
    noted_of (λ cave (begun : State) (greeting : List Part). step_head_row) moment_row cave game
