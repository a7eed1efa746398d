-- What remains when a replay is taken over.
use Rattle.std.specs.Prelude.{◌≡◌, ℕ, ◌+◌, ◌-◌, ◌<◌, ◌≤◌, List, ◌++◌, length, take, slice_index}
use Rattle.std.specs.Prelude.{Option, Some, None, MatchOption, vec_len}
use Rattle.std.specs.List.{splice}
use Rattle.replay_checkpoints.specs.Blocks.{IsOpenAt}
use Rattle.replay_checkpoints.specs.Marks.{MarksView, CheckpointsView, IsBegunAt, places_met, states_met}
use Rattle.cave_replay.specs.declared.playthrough.Playthrough.{Playthrough}
use Rattle.cave_replay.specs.declared.replay.Rerun.{Rerun}
use Rattle.cave_replay.specs.ReadyEdits.{new_game}
use Rattle.cave_replay.specs.Playthrough.{kept_game}

-- the old place up to which what was played replaces the old play: the checkpoint that was met, or
-- the end
abbrev pub end_of_stretch : {S : Type 0} → CheckpointsView S → Option ℕ → ℕ
end_of_stretch checkpoints None = checkpoints.lines
end_of_stretch checkpoints (Some index) = slice_index checkpoints.places index

-- The marks of a replay from the checkpoint of the index `at` end at the end of the new log; or, if
-- the old play was met, as far from it as the checkpoint that was met is from the end of the old
-- log.
abbrev pub MarksEnd : {S : Type 0} → CheckpointsView S → MarksView S → ℕ → Option ℕ → Type 0
MarksEnd checkpoints marks at met =
    MatchOption met (marks.next ≡ marks.end)
    (λ index. (at ≤ index) × (index < length checkpoints.places)
    × (checkpoints.lines - slice_index checkpoints.places index + marks.next ≡ marks.end))

-- The marks of a replay began at the checkpoint of the index `at`, end where they must, and what
-- comes in goes from there on.
pub record IsStretch {S : Type 0} (checkpoints : CheckpointsView S) (marks : MarksView S) (at : ℕ)
    (met : Option ℕ) : Type 0 where
  pub begun : IsBegunAt checkpoints at marks
  pub ends : MarksEnd checkpoints marks at met
  pub forward : slice_index checkpoints.places at ≤ end_of_stretch checkpoints met

-- how many checkpoints are before that place: all of them if it is the end
abbrev pub checkpoints_passed : {S : Type 0} → CheckpointsView S → Option ℕ → ℕ
checkpoints_passed checkpoints None = length checkpoints.places
checkpoints_passed checkpoints (Some index) = index

-- There is room for the checkpoints that the marks of a replay from the one of the index `at`
-- leave, if those that it passed go: they are those before the index `count`.
abbrev pub FitsMarks : {S : Type 0} → CheckpointsView S → MarksView S → ℕ → ℕ → Type 0
FitsMarks checkpoints marks at count =
    length checkpoints.places + length marks.places + (at - 1) ≤ checkpoints.room + count

-- each line that is kept has a piece, and ticked or not, and the checkpoints are of all the lines
pub record IsWhole {Machine Kept Scratch State Piece Meter : Type 0}
    (kept : Playthrough Machine Kept Scratch State Piece Meter) : Type 0 where
  pub pieces : length kept.pieces.items ≡ length kept.log.items
  pub ticked : length kept.ticked.each.items ≡ length kept.log.items
  pub lines : kept.checkpoints.lines ≡ length kept.log.items

-- There is room for the lines of the edits of a rerun, and for what it played, if the lines and the
-- checkpoints that it passed go.
pub record HasRoomFor {Machine Kept Scratch State Piece Meter : Type 0}
    (kept : Playthrough Machine Kept Scratch State Piece Meter)
    (rerun : Rerun Machine Kept Scratch State Piece Meter) :
    Type 0 where
  pub log : IsOpenAt kept.log rerun.ready.head rerun.ready.rest (vec_len rerun.ready.middle)
  pub pieces : IsOpenAt kept.pieces (slice_index kept.checkpoints.places rerun.at)
      (end_of_stretch kept.checkpoints rerun.played.met) (vec_len rerun.played.pieces)
  pub ticked : IsOpenAt kept.ticked.each (slice_index kept.checkpoints.places rerun.at)
      (end_of_stretch kept.checkpoints rerun.played.met) (vec_len rerun.played.ticked)
  pub marks : FitsMarks kept.checkpoints rerun.played.marks rerun.at
      (checkpoints_passed kept.checkpoints rerun.played.met)

-- the checkpoints after a replay from the one of the index `at`, and their states
abbrev pub new_places : {S : Type 0} → CheckpointsView S → MarksView S → ℕ → Option ℕ → List ℕ
new_places checkpoints marks at None = take (at - 1) checkpoints.places ++ marks.places
new_places checkpoints marks at (Some index) = places_met checkpoints marks at index

abbrev pub new_states : {S : Type 0} → CheckpointsView S → MarksView S → ℕ → Option ℕ → List S
new_states checkpoints marks at None = take (at - 1) checkpoints.states ++ marks.states
new_states checkpoints marks at (Some index) = states_met checkpoints marks at index

-- the last state: that of the marks, or the old one if the plays met
abbrev pub new_state : {S : Type 0} → S → MarksView S → Option ℕ → S
new_state state marks None = marks.state
new_state state marks (Some index) = state

-- What is kept after a rerun is taken over: the new game of its edits, and what it played in the
-- place of what was there.
pub record IsTakenOver {Machine Kept Scratch State Piece Meter : Type 0}
    (old new : Playthrough Machine Kept Scratch State Piece Meter)
    (rerun : Rerun Machine Kept Scratch State Piece Meter) :
    Type 0 where
  pub game : kept_game new ≡ new_game rerun.ready (kept_game old).log
  pub opening_is : MatchOption rerun.opening (new.opening ≡ old.opening)
      (λ piece. new.opening ≡ piece)
  pub pieces : new.pieces.items
      ≡ splice old.pieces.items (slice_index old.checkpoints.places rerun.at)
      (end_of_stretch old.checkpoints rerun.played.met) rerun.played.pieces.items
  pub ticked : new.ticked.each.items
      ≡ splice old.ticked.each.items (slice_index old.checkpoints.places rerun.at)
      (end_of_stretch old.checkpoints rerun.played.met) rerun.played.ticked.items
  pub every : new.checkpoints.every ≡ old.checkpoints.every
  pub lines : new.checkpoints.lines ≡ rerun.played.marks.end
  pub places : new.checkpoints.places
      ≡ new_places old.checkpoints rerun.played.marks rerun.at rerun.played.met
  pub states : new.checkpoints.states
      ≡ new_states old.checkpoints rerun.played.marks rerun.at rerun.played.met
  pub state : new.state ≡ new_state old.state rerun.played.marks rerun.played.met
