-- What a replay is: revisions, marks, and reruns from a checkpoint.
use Rattle.std.specs.Prelude.{◌≡◌, ℕ, ◌+◌, ◌-◌, ◌<◌, ◌≤◌, ◌++◌, ◌⊎◌, Bool, List, [], ◌∷◌, length}
use Rattle.std.specs.Prelude.{Option, None, MatchOption, map, take, drop, slice_index, All}
use Rattle.std.specs.Option.{option_map}
use Rattle.replay_checkpoints.specs.Marks.{MarksView, CheckpointsView, IsBegunAt}
use Rattle.cave_replay.specs.declared.replay.Rerun.{Rerun}
use Rattle.cave_replay.specs.declared.segment.Segment.{Segment}
use Rattle.cave_replay.specs.Play.{MachineRules, texts_of, ticks_of}
use Rattle.replay_edits.specs.Edit.{Game, Change, margins_of}
use Rattle.cave_replay.specs.Agreement.{state_at, image, AgreesAt, NoneMeetsBefore, IsMeet}
use Rattle.cave_replay.specs.Agreement.{IsBounded}

-- the logs have the first `head` lines and the last `tail` lines in common; the seeds are the same
-- too, unless `head` is 0
pub record IsShift (old new : Game) (head tail : ℕ) : Type 0 where
  pub within_old : head + tail ≤ length old.log
  pub within_new : head + tail ≤ length new.log
  pub prefix : take head new.log ≡ take head old.log
  pub rest : drop (length new.log - tail) new.log ≡ drop (length old.log - tail) old.log
  pub seed : 0 < head → new.seed ≡ old.seed

abbrev pub texts_at : {S T : Type 0} → MachineRules S T → Game → ℕ → List T
texts_at rules game place = texts_of rules (rules.begun game.seed) (take place game.log)

abbrev pub ticks_at : {S T : Type 0} → MachineRules S T → Game → ℕ → List Bool
ticks_at rules game place = ticks_of rules (rules.begun game.seed) (take place game.log)

-- What is played again: a new game, while the play of an old one is held. Edits leave the first
-- `head` lines and the last `tail` lines as they are.
pub record Revision (S T : Type 0) : Type 0 where
  pub rules : MachineRules S T
  pub old : Game
  pub new : Game
  pub head : ℕ
  pub tail : ℕ

abbrev pub revision_to : {S T : Type 0} → MachineRules S T → List Change → Game → Game
    → Revision S T
revision_to rules changes old new = record {
  rules = rules;
  old = old;
  new = new;
  head = (margins_of changes old.log).head;
  tail = (margins_of changes old.log).tail;
}

-- After what the new play said before the place `from`, these pieces are what it says before the
-- place `to`.
abbrev pub SaysNew : {S T : Type 0} → Revision S T → ℕ → List T → ℕ → Type 0
SaysNew revision from pieces to =
    texts_at revision.rules revision.new from ++ pieces ≡ texts_at revision.rules revision.new to

-- After what ticked in the new play before the place `from`, these ticks are those before the place
-- `to`.
abbrev pub TicksNew : {S T : Type 0} → Revision S T → ℕ → List Bool → ℕ → Type 0
TicksNew revision from ticks to =
    ticks_at revision.rules revision.new from ++ ticks ≡ ticks_at revision.rules revision.new to

-- the states of the old play and of the new one, by their places
abbrev pub states_of_old : {S T : Type 0} → Revision S T → ℕ → S
states_of_old revision = state_at revision.rules revision.old

abbrev pub states_of_new : {S T : Type 0} → Revision S T → ℕ → S
states_of_new revision = state_at revision.rules revision.new

-- the new play didn't meet the old one, and `next` is its end
pub record MetNowhere {S T : Type 0} (revision : Revision S T) (checkpoints : List ℕ)
    (next end : ℕ) :
    Type 0 where
  pub at_end : next ≡ end
  pub unmet : IsMeet revision.rules revision.old revision.new revision.tail checkpoints None

-- at the place `next` the new play met the old one at the checkpoint of an index
pub record MetAt {S T : Type 0} (revision : Revision S T) (checkpoints : List ℕ) (next index : ℕ) :
    Type 0 where
  pub inside : index < length checkpoints
  pub agrees : AgreesAt revision.rules revision.old revision.new revision.tail
      (slice_index checkpoints index)
  pub here : next ≡ image revision.old revision.new (slice_index checkpoints index)

-- one of the two, by the index of the checkpoint, if it met one
abbrev pub HasMet : {S T : Type 0} → Revision S T → List ℕ → ℕ → ℕ → Option ℕ → Type 0
HasMet revision checkpoints next end met =
    MatchOption met (MetNowhere revision checkpoints next end) (MetAt revision checkpoints next)

-- no checkpoint at which the plays agree is before this place of the new log
abbrev pub NoneMetBefore : {S T : Type 0} → Revision S T → List ℕ → ℕ → Type 0
NoneMetBefore revision checkpoints limit =
    NoneMeetsBefore revision.rules revision.old revision.new revision.tail checkpoints limit

abbrev pub IsWithinBound : {S T : Type 0} → Revision S T → ℕ → ℕ → Type 0
IsWithinBound revision every steps =
    IsBounded revision.rules revision.old revision.new revision.head revision.tail every steps

-- the states are those that `by_place` gives for the places
pub record AreStates {State Meaning : Type 0} (meaning : State → Meaning)
    (is_state : State → Type 0) (by_place : ℕ → Meaning) (places : List ℕ) (states : List State) :
    Type 0 where
  pub meanings : map meaning states ≡ map by_place places
  pub made : All is_state states

-- the states of marks, including that of the open place, are those that it gives
pub record IsMarking {State Meaning : Type 0} (meaning : State → Meaning)
    (is_state : State → Type 0) (by_place : ℕ → Meaning) (marks : MarksView State) : Type 0 where
  pub kept : AreStates meaning is_state by_place marks.places marks.states
  pub next : meaning marks.state ≡ by_place marks.next
  pub next_made : is_state marks.state

-- Marks begin at the checkpoint of the index `at`: they have the states of each play that begins
-- with the state `first` and that, if the seed is the same, has those of the checkpoints so far.
abbrev pub MarksBegin : {State Meaning : Type 0} → (State → Meaning) → (State → Type 0) → Meaning
    → Type 0 → CheckpointsView State → ℕ → MarksView State → Type 0
MarksBegin {State} {Meaning} meaning is_state first is_same_seed checkpoints at marks =
    (states : ℕ → Meaning) → states 0 ≡ first
    → (is_same_seed → AreStates meaning is_state states (take (at + 1) checkpoints.places)
    (take (at + 1) checkpoints.states))
    → IsMarking meaning is_state states marks

-- Marks go on by one place: they have the states of each play that has those of the old marks and
-- then the state `next`.
abbrev pub MarksGoOn : {State Meaning : Type 0} → (State → Meaning) → (State → Type 0) → Meaning
    → MarksView State → MarksView State → Type 0
MarksGoOn {State} {Meaning} meaning is_state next old new =
    (states : ℕ → Meaning) → IsMarking meaning is_state states old → states (old.next + 1) ≡ next
    → IsMarking meaning is_state states new

-- the new marks have gone on from the old ones: they belong to the same log and began at the same
-- place
pub record AreFurther {State : Type 0} (old new : MarksView State) : Type 0 where
  pub every : new.every ≡ old.every
  pub end : new.end ≡ old.end
  pub from : new.from ≡ old.from
  pub start : slice_index new.places 0 ≡ slice_index old.places 0

-- a stretch of a play by what its pieces say
pub record SegmentView (State T : Type 0) : Type 0 where
  pub pieces : List T
  pub ticks : List Bool
  pub marks : MarksView State
  pub met : Option ℕ

abbrev pub segment_view : {Machine Kept Scratch State Piece Meter T : Type 0}
    → (Piece → T) → Segment Machine Kept Scratch State Piece Meter → SegmentView State T
segment_view text played = record {
  pieces = map text played.pieces.items;
  ticks = played.ticked.items;
  marks = played.marks;
  met = played.met;
}

-- One more line was played: what it says and whether it ticks come last, and the marks go on by one
-- place, to the state after it.
pub record PlaysLine {State S T : Type 0} (meaning : State → S) (is_state : State → Type 0)
    (rules : MachineRules S T) (line : List ℕ) (old new : SegmentView State T) : Type 0 where
  pub pieces : new.pieces ≡ old.pieces ++ rules.said (meaning old.marks.state) line ∷ []
  pub ticks_are : new.ticks ≡ old.ticks ++ rules.ticked (meaning old.marks.state) line ∷ []
  pub next : new.marks.next ≡ old.marks.next + 1
  pub marking : MarksGoOn meaning is_state (rules.after (meaning old.marks.state) line) old.marks
      new.marks
  pub settings : AreFurther old.marks new.marks
  pub met : new.met ≡ old.met

-- The new game was played from the open place of the marks `begun` on, until it met the old play
-- at a checkpoint, or to its end.
pub record IsPlayedOn {State S T : Type 0} (meaning : State → S) (is_state : State → Type 0)
    (revision : Revision S T) (checkpoints : List ℕ) (begun : MarksView State)
    (played : SegmentView State T) : Type 0 where
  pub texts : SaysNew revision begun.next played.pieces played.marks.next
  pub ticks_are : TicksNew revision begun.next played.ticks played.marks.next
  pub marking : IsMarking meaning is_state (states_of_new revision) played.marks
  pub settings : AreFurther begun played.marks
  pub forward : begun.next ≤ played.marks.next
  pub inside : played.marks.next ≤ begun.end
  pub met_is : HasMet revision checkpoints played.marks.next begun.end played.met
  pub none_before : NoneMetBefore revision checkpoints played.marks.next

-- The marks of a new game are where its replay may begin: at most one distance of checkpoints
-- before the first line that edits change.
pub record IsBeforeChange {State S T : Type 0} (revision : Revision S T) (every : ℕ)
    (marks : MarksView State) : Type 0 where
  pub end : marks.end ≡ length revision.new.log
  pub every_is : marks.every ≡ every
  pub apart : 0 < marks.every
  pub from : marks.next ≤ revision.head
  pub near : revision.head ≤ marks.next + marks.every

-- The replay of a revision may begin: the old checkpoints, which belong to the old log, have the
-- states of the old play, and the marks, which are where it may begin, have those of the new one.
pub record MayBegin {State S T : Type 0} (meaning : State → S) (is_state : State → Type 0)
    (revision : Revision S T) (checkpoints : CheckpointsView State) (marks : MarksView State) :
    Type 0 where
  pub lines : checkpoints.lines ≡ length revision.old.log
  pub old_states : AreStates meaning is_state (states_of_old revision) checkpoints.places
      checkpoints.states
  pub marking : IsMarking meaning is_state (states_of_new revision) marks
  pub before : IsBeforeChange revision checkpoints.every marks

-- The checkpoint of an index moves to a new place, as `old` moves to `new`; `old_at` and `new_at`
-- give the states of the old play and of the new one, which agree there.
pub record ComesAndAgrees {Meaning : Type 0} (old_at new_at : ℕ → Meaning) (checkpoints : List ℕ)
    (index old new place : ℕ) : Type 0 where
  pub inside : index < length checkpoints
  pub here : slice_index checkpoints index - old + new ≡ place
  pub same : new_at place ≡ old_at (slice_index checkpoints index)

-- it moves elsewhere and stays the next one
pub record StaysNext (checkpoints : List ℕ) (index old new place further : ℕ) : Type 0 where
  pub further_is : further ≡ index
  pub elsewhere : index < length checkpoints → slice_index checkpoints index - old + new ≡ place → ⊥

-- it moves there, the plays don't agree, and the one after it is next
pub record IsPassed {Meaning : Type 0} (old_at new_at : ℕ → Meaning) (checkpoints : List ℕ)
    (index old new place further : ℕ) : Type 0 where
  pub further_is : further ≡ index + 1
  pub inside : index < length checkpoints
  pub here : slice_index checkpoints index - old + new ≡ place
  pub differs : new_at place ≡ old_at (slice_index checkpoints index) → ⊥

-- one of the two
abbrev pub Passes : {Meaning : Type 0}
    → (ℕ → Meaning) → (ℕ → Meaning) → List ℕ → ℕ → ℕ → ℕ → ℕ → ℕ → Type 0
Passes old_at new_at checkpoints index old new place further =
    StaysNext checkpoints index old new place further
    ⊎ IsPassed old_at new_at checkpoints index old new place further

-- the index of the checkpoint that is next after this place, or none if the plays agree here
abbrev pub IsNextIndex : {Meaning : Type 0}
    → (ℕ → Meaning) → (ℕ → Meaning) → List ℕ → ℕ → ℕ → ℕ → ℕ → Option ℕ → Type 0
IsNextIndex old_at new_at checkpoints index old new place further =
    MatchOption further (ComesAndAgrees old_at new_at checkpoints index old new place)
    (Passes old_at new_at checkpoints index old new place)

-- what is known of a rerun: the index of the checkpoint that it began at, the opening, if it began
-- with another seed, what was said and what ticked, its marks, and the index of the checkpoint that
-- it met
pub record RerunView (State T : Type 0) : Type 0 where
  pub at : ℕ
  pub opening : Option T
  pub pieces : List T
  pub ticks : List Bool
  pub marks : MarksView State
  pub met : Option ℕ

abbrev pub rerun_view : {Machine Kept Scratch State Piece Meter T : Type 0}
    → (Piece → T) → Rerun Machine Kept Scratch State Piece Meter → RerunView State T
rerun_view text rerun = record {
  at = rerun.at;
  opening = option_map text rerun.opening;
  pieces = map text rerun.played.pieces.items;
  ticks = rerun.played.ticked.items;
  marks = rerun.played.marks;
  met = rerun.played.met;
}

-- A new game was played from an old checkpoint, the last before its first `head` lines end, until
-- it met the old play at a checkpoint, or to its end.
pub record IsRerun {State S T : Type 0} (meaning : State → S) (is_state : State → Type 0)
    (revision : Revision S T) (checkpoints : CheckpointsView State)
    (rerun : RerunView State T) : Type 0 where
  pub begun : IsBegunAt checkpoints rerun.at rerun.marks
  pub not_after : slice_index checkpoints.places rerun.at ≤ revision.head
  pub last : (k : ℕ) → rerun.at < k → k < length checkpoints.places
      → revision.head < slice_index checkpoints.places k
  pub end : rerun.marks.end ≡ length revision.new.log
  pub opening_is : MatchOption rerun.opening (revision.new.seed ≡ revision.old.seed)
      (λ piece. piece ≡ revision.rules.greeting revision.new.seed)
  pub texts_are : SaysNew revision (slice_index checkpoints.places rerun.at) rerun.pieces
      rerun.marks.next
  pub ticks_are : TicksNew revision (slice_index checkpoints.places rerun.at) rerun.ticks
      rerun.marks.next
  pub marking : IsMarking meaning is_state (states_of_new revision) rerun.marks
  pub forward : slice_index checkpoints.places rerun.at ≤ rerun.marks.next
  pub within : rerun.marks.next ≤ length revision.new.log
  pub met_is : HasMet revision checkpoints.places rerun.marks.next (length revision.new.log)
      rerun.met
  pub none_before : NoneMetBefore revision checkpoints.places rerun.marks.next
