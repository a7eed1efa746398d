-- What a watch notes of what it sees.
use Rattle.std.specs.Prelude.{◌≡◌, List, ◌++◌, length}
use Rattle.cave_data.specs.CaveView.{CaveView}
use Rattle.cave_replay.specs.Play.{state_after, ticks_of}
use Rattle.cave_world.specs.declared.state.State.{State}
use Rattle.cave_world.specs.declared.tables.RuleRow.{RuleRow}
use Rattle.replay_edits.specs.Edit.{Game}
use Rattle.play_machine.specs.Machine.{cave_rules}
use Rattle.play_machine.specs.Moments.{Moment}
use Rattle.play_machine.specs.Transcript.{ticks}
use Rattle.play_machine.specs.declared.course.PlayEnd.{PlayEnd}
use Rattle.play_machine.specs.declared.watch.SeenLine.{SeenLine}

-- these facts were noted, after those that were noted before
abbrev pub NotesMore : {Fact W : Type 0} → (List Fact → W → Type 0) → List Fact → W → W → Type 0
NotesMore {Fact} HasNoted facts old new =
    (noted : List Fact) → HasNoted noted old → HasNoted (noted ++ facts) new

-- the moment of a line that was played in a state, and at which these rows were noted
abbrev pub moment_of : {Before : Type 0} → SeenLine Before → State → List RuleRow → Moment
moment_of seen before rows = record {
  place = seen.place;
  line = seen.line.now;
  turns = seen.turns;
  ticked = seen.ticked;
  before = before;
  after = seen.after.now;
  parts = seen.parts.now;
  rows = rows;
}

-- the end of a play of the game in the cave: the state to which its lines lead, after their turns
pub record IsEndOf (cave : CaveView) (game : Game) (end : PlayEnd) : Type 0 where
  pub state_is : end.state ≡ state_after (cave_rules cave) ((cave_rules cave).begun game.seed) game.log
  pub turns_are : end.turns
      ≡ ticks (ticks_of (cave_rules cave) ((cave_rules cave).begun game.seed) game.log)
      (length game.log)
