-- The theorem on edited logs, on a page. Three things in it are read elsewhere: what a database means
-- (`Reads`), what a turn does and scores (`start_of_game`, `turn_on_line`, `score_of`), and the text
-- of what is said (`text_of_all`).
use Rattle.std.specs.Prelude.{◌≡◌, ℕ, ◌+◌, Bool, if◌then◌else◌, List, [], ◌∷◌, ◌++◌, None}
use Rattle.std.specs.Prelude.{MatchOption, ⊤}
use Rattle.std.specs.List.{sum}
use Rattle.std.specs.Str.Lines.{lines}
use Rattle.base_lines.specs.LogLine.{log_line}
use Rattle.cave_data.specs.CaveView.{CaveView}
use Rattle.cave_data.specs.Reads.{Reads}
use Rattle.cave_turn.specs.Turns.{start_of_game, turn_on_line}
use Rattle.cave_world.specs.declared.state.State.{State}
use Rattle.cave_replay.specs.Report.{IsBoundedFor}
use Rattle.play_edits.specs.Items.{game_after_item, game_after_items, reports}
use Rattle.play_edits.specs.Refusal.{item_refusal}
use Rattle.play_machine.specs.Machine.{cave_rules}
use Rattle.play_machine.specs.Transcript.{echo, is_shown, last_line}
use Rattle.replay_edits.specs.Edit.{Game, apply_all, game_of, inverses_of}
use Rattle.replay_scripts.specs.Guards.{IsScriptBy}
use Rattle.replay_scripts.specs.Script.{Applied}
use Rattle.turn_ends.specs.Score.{max_score_of, score_of}
use Rattle.turn_text.specs.Text.{text_of_all}

-- what is printed of lines that a person plays one after another, in a state after this many turns
abbrev pub told : CaveView → State → ℕ → List (List ℕ) → List ℕ
told cave state turns [] = last_line (score_of cave state) (max_score_of cave) turns
told cave state turns (line ∷ lines) =
    let turn = turn_on_line cave state line in
    let now = turns + (if turn.ticked then 1 else 0) in
    (if is_shown (log_line line) then echo line ++ text_of_all cave now turn.parts else [])
    ++ told cave turn.state now lines

-- what is printed of a game that is played from its first line to its last
abbrev pub told_from_start : CaveView → Game → List ℕ
told_from_start cave game =
    let begun = start_of_game cave game.seed in
    text_of_all cave 0 begun.parts ++ told cave begun.state 0 game.log

-- An item that is refused plays nothing. One that is accepted plays no more lines than there are from
-- the first changed one to any place at which the old play and the new one agree, and to the end,
-- each with twice the distance of checkpoints.
abbrev pub IsReplayed : CaveView → ℕ → Applied → Game → ℕ → Type 0
IsReplayed cave every item game count =
    MatchOption (item_refusal item game.log)
    (IsBoundedFor (cave_rules cave) item.changes game every count) (λ _. count ≡ 0)

-- the same of items, each in the game that those before it leave
abbrev pub AreReplayed : CaveView → ℕ → List Applied → Game → List ℕ → Type 0
AreReplayed cave every [] game counts = counts ≡ []
AreReplayed cave every (item ∷ items) game [] = ⊥
AreReplayed cave every (item ∷ items) game (count ∷ counts) =
    IsReplayed cave every item game count
    × AreReplayed cave every items (game_after_item item game) counts

-- What `cave edit` prints of a database, bindings, a log and a script: a report on each item, and
-- then what is printed of the edited game, as if somebody played it from its first line. And how
-- many lines it plays for the items.
pub record EditedAsPlayed (database bindings log script : List ℕ) (seed every : ℕ)
    (guarded : Bool) (printed : List ℕ) (played : ℕ) : Type 0 where
  pub cave : CaveView
  pub reads : Reads database bindings cave
  pub items : List Applied
  pub spelled : IsScriptBy guarded script items
  pub prints : printed ≡ reports items (game_of seed (lines log))
      ++ told_from_start cave (game_after_items items (game_of seed (lines log)))
  pub counts : List ℕ
  pub bounded : AreReplayed cave every items (game_of seed (lines log)) counts
  pub played_is : played ≡ sum counts

-- an edit that is refused changes nothing
abbrev pub RefusedChangesNothing : Type 0
RefusedChangesNothing = (item : Applied) (game : Game)
    → MatchOption (item_refusal item game.log) ⊤ (λ _. game_after_item item game ≡ game)

-- what takes an accepted edit back gives the old game back
abbrev pub InverseGivesBack : Type 0
InverseGivesBack = (item : Applied) (game : Game) → item_refusal item game.log ≡ None
    → apply_all (inverses_of item.changes game) (game_after_item item game) ≡ game
