-- What the items of a script do in a session, one after another.
use Rattle.std.specs.Prelude.{◌≡◌, ℕ, List, [], ◌∷◌, length, Option, None, Some, Result, Ok, Err}
use Rattle.cave_data.specs.CaveView.{CaveView}
use Rattle.replay_checkpoints.specs.Spacing.{IsSpaced}
use Rattle.replay_edits.specs.Edit.{Game, changes_of, inverses_of}
use Rattle.cave_replay.specs.Play.{state_after, ticks_of}
use Rattle.cave_replay.specs.declared.report.GroupReport.{GroupReport}
use Rattle.turn_ends.specs.Score.{score_of, max_score_of}
use Rattle.play_machine.specs.Transcript.{ticks}
use Rattle.cave_replay.specs.Report.{IsReport}
use Rattle.replay_scripts.specs.Script.{Applied}
use Rattle.play_machine.specs.Machine.{cave_rules}
use Rattle.play_edits.specs.Items.{game_after_item}
use Rattle.play_edits.specs.Refusal.{item_refusal}
use Rattle.play_edits.specs.declared.outcome.Standing.{Standing}
use Rattle.play_edits.specs.declared.refusal.Refusal.{Refusal}

-- the outcome of an item: what was done for it, or why it was refused
abbrev pub ItemOutcome : Type 0
ItemOutcome = Result GroupReport Refusal

abbrev pub refusal_in : ItemOutcome → Option Refusal
refusal_in (Ok done) = None
refusal_in (Err refusal) = Some refusal

abbrev pub played_in : ItemOutcome → ℕ
played_in (Ok done) = done.played
played_in (Err refusal) = 0

-- how many lines playing the edited log from its first line would have played
abbrev pub lines_in : ItemOutcome → ℕ
lines_in (Ok done) = done.lines
lines_in (Err refusal) = 0

-- where the game is after its last line, by playing it from its first
unfoldable pub standing_of : CaveView → Game → Standing
standing_of cave game =
    let rules = cave_rules cave in
    let begun = rules.begun game.seed in
    let state = state_after rules begun game.log in
    record {
      score = score_of cave state;
      most = max_score_of cave;
      turns = ticks (ticks_of rules begun game.log) (length game.log);
      place = state.trail.here;
      ending = state.ending;
    }

-- An item was accepted in the game, whose play is held with these checkpoints, and this was done
-- for it: its log was replayed this far, has this many lines, and these edits take the item back.
pub record IsDone (cave : CaveView) (every : ℕ) (item : Applied) (game : Game)
    (checkpoints : List ℕ) (done : GroupReport) : Type 0 where
  pub accepted : item_refusal item game.log ≡ None
  pub report : IsReport (cave_rules cave) item.changes game every checkpoints done.from done.met
      done.played
  pub lines : done.lines ≡ length (game_after_item item game).log
  pub inverse : changes_of done.inverse.items ≡ inverses_of item.changes game

abbrev pub IsItemOutcome : CaveView → ℕ → Applied → Game → List ℕ → ItemOutcome → Type 0
IsItemOutcome cave every item game checkpoints (Ok done) =
    IsDone cave every item game checkpoints done
IsItemOutcome cave every item game checkpoints (Err refusal) =
    item_refusal item game.log ≡ Some refusal

-- the checkpoints after an item: those before it if it was refused, and otherwise spaced in the log
-- that it leaves
abbrev pub AreLeft : ℕ → ItemOutcome → List ℕ → Game → List ℕ → Type 0
AreLeft every (Ok done) before game after = IsSpaced every after (length game.log)
AreLeft every (Err refusal) before game after = after ≡ before

-- the outcomes of items, each in the game and with the checkpoints that those before it left
abbrev pub AreOutcomes : CaveView → ℕ → List Applied → Game → List ℕ → List ItemOutcome → Type 0
AreOutcomes cave every [] game checkpoints [] = Unit {0}
AreOutcomes cave every [] game checkpoints (outcome ∷ outcomes) = ⊥
AreOutcomes cave every (item ∷ items) game checkpoints [] = ⊥
AreOutcomes cave every (item ∷ items) game checkpoints (outcome ∷ outcomes) =
    IsItemOutcome cave every item game checkpoints outcome
    × ((after : List ℕ) × AreLeft every outcome checkpoints (game_after_item item game) after
    × AreOutcomes cave every items (game_after_item item game) after outcomes)
