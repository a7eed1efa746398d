-- What is kept and reported after a replay is taken over.
use Rattle.std.proofs.Common.{◌≡◌, ℕ, ◌+◌, ◌-◌, ◌<◌, ◌≤◌, inl, inr, Bool, List, length, refl, sym}
use Rattle.std.proofs.Common.{ap, ◌∙◌, arith, Option, Some, None}
use Rattle.std.specs.Prelude.{slice_index, MatchOption, unwrap_or}
use Rattle.replay_edits.specs.LineText.{LineText}
use Rattle.std.specs.List.{splice}
use Rattle.std.specs.Option.{option_map, ForSome}
use Rattle.std.proofs.Math.Seq.{take-length}
use Rattle.std.proofs.lemmas.Bool.{cases_lt}
use Rattle.std.proofs.lemmas.List.{get_or_default}
use Rattle.replay_checkpoints.specs.Spacing.{IsSpaced}
use Rattle.replay_checkpoints.specs.Marks.{MarksView, CheckpointsView}
use Rattle.cave_replay.specs.Play.{MachineRules, state_after, texts_of, ticks_of}
use Rattle.cave_replay.specs.declared.ready_edits.ReadyEdits.{ReadyEdits}
use Rattle.replay_edits.specs.Edit.{game_of, log_of, IsGame, Change, apply_all, margins_of}
use Rattle.cave_replay.specs.Playthrough.{IsPlaythrough}
use Rattle.cave_replay.specs.Agreement.{IsMeet, IsLastTo}
use Rattle.cave_replay.specs.ReadyEdits.{new_game, AreEditsOf}
use Rattle.cave_replay.specs.Replay.{Revision, IsShift, AreStates, IsRerun, RerunView, revision_to}
use Rattle.cave_replay.specs.Replay.{HasMet, MetAt, states_of_new}
use Rattle.cave_replay.specs.Report.{IsReport}
use Rattle.cave_replay.specs.Takeover.{end_of_stretch, checkpoints_passed, FitsMarks, IsStretch}
use Rattle.cave_replay.specs.Takeover.{MarksEnd, new_places, new_states, new_state}
use Rattle.cave_replay.proofs.Bounds.{bounded_to, near_last, contains_at}
use Rattle.cave_replay.proofs.Joins.{met_texts, met_ticks, met_state, end_texts, end_ticks}
use Rattle.cave_replay.proofs.Joins.{met_states, end_states}
use Rattle.cave_replay.proofs.Plays.{length-pieces, length-ticks}
use Rattle.cave_replay.proofs.ReadyLemmas.{shift_of, good_of}
use Rattle.cave_replay.proofs.Revisions.{HasCheckpoints}
use Rattle.cave_replay.proofs.Underways.{rising_lt}

opening_after : {T : Type 0} (opening : Option T) (same : Type 0) (old new greeting greeting' : T)
    → (same → greeting ≡ greeting') → MatchOption opening same (λ piece. piece ≡ greeting')
    → MatchOption opening (new ≡ old) (λ piece. new ≡ piece) → old ≡ greeting → new ≡ greeting'
opening_after None same old new greeting greeting' greets made taken was = taken ∙ was ∙ greets made
opening_after (Some piece) same old new greeting greeting' greets made taken was = taken ∙ made

-- the play of an old game, and a replay of the new one
pub record IsReplay {State S T : Type 0} (meaning : State → S) (is_state : State → Type 0)
    (revision : Revision S T) (opening : T) (pieces : List T) (ticks : List Bool) (state : State)
    (C : CheckpointsView State) (rerun : RerunView State T) : Type 0 where
  pub old_play : IsPlaythrough meaning is_state revision.rules revision.old opening pieces ticks
      state C
  pub spacing : IsSpaced C.every C.places C.lines
  pub shift : IsShift revision.old revision.new revision.head revision.tail
  pub new_is : IsGame revision.new
  pub new_play : IsRerun meaning is_state revision C rerun

-- the changes that edits are made of
pub replay_of : {State S T : Type 0} {meaning : State → S} {is_state : State → Type 0}
    {rules : MachineRules S T} {changes : List Change} {seed : ℕ} {log : List LineText}
    {ready : ReadyEdits} {opening : T} {pieces : List T} {ticks : List Bool} {state : State}
    {C : CheckpointsView State} {rerun : RerunView State T}
    → IsPlaythrough meaning is_state rules (game_of seed (log_of log)) opening pieces ticks state C
    → AreEditsOf changes seed log ready → IsSpaced C.every C.places C.lines
    → IsRerun meaning is_state
    (revision_to rules changes (game_of seed (log_of log)) (new_game ready (log_of log))) C rerun
    → IsReplay meaning is_state
    (revision_to rules changes (game_of seed (log_of log)) (new_game ready (log_of log)))
    opening pieces ticks state C rerun
replay_of {changes} {log} {ready} old_play edits spacing new_play =
    let tail : length log - ready.rest ≡ (margins_of changes (log_of log)).tail =
    omega (arith, edits.tail) in
    record {
      old_play = old_play;
      spacing = spacing;
      shift = rw (← edits.head, ← tail) (shift_of edits);
      new_is = good_of edits old_play.game_is;
      new_play = new_play;
    }

pub stretch_same : {State : Type 0} (C1 C : CheckpointsView State) → C1.lines ≡ C.lines
    → C1.places ≡ C.places → (met : Option ℕ) → end_of_stretch C1 met ≡ end_of_stretch C met
stretch_same C1 C lines places None = lines
stretch_same C1 C lines places (Some index) = ap (λ p. slice_index p index) places

module _ {State S T : Type 0} {meaning : State → S} {is_state : State → Type 0}
    {revision : Revision S T} {opening : T} {pieces : List T} {ticks : List Bool} {state : State}
    {C : CheckpointsView State} {rerun : RerunView State T}
    (replay : IsReplay meaning is_state revision opening pieces ticks state C rerun) where
  -- the old place at which the replay began
  abbrev from : ℕ
  from = slice_index C.places rerun.at

  -- the replay met the old play at this checkpoint, or not at all
  abbrev Met : Option ℕ → Type 0
  Met met = HasMet revision C.places rerun.marks.next (length revision.new.log) met

  checkpoints : HasCheckpoints revision C.every C.places
  checkpoints = record {
    some = replay.old_play.every_is.some;
    shift = replay.shift;
    spacing = rw (← replay.old_play.lines) replay.spacing;
  }

  pieces_by : (met : Option ℕ) → Met met
      → splice pieces from (end_of_stretch C met) rerun.pieces
      ≡ texts_of revision.rules (revision.rules.begun revision.new.seed) revision.new.log
  pieces_by None is =
      let n = length-pieces replay.old_play.plays in
      let lines = replay.old_play.lines in
      end_texts revision.rules replay.shift from C.lines rerun.marks.next pieces rerun.pieces
      replay.new_play.not_after replay.old_play.plays.pieces_are replay.new_play.texts_are
      (omega arith) is.at_end
  pieces_by (Some index) is =
      met_texts revision.rules replay.shift from (slice_index C.places index) rerun.marks.next
      pieces rerun.pieces replay.new_play.not_after replay.old_play.plays.pieces_are
      replay.new_play.texts_are is.agrees is.here

  ticks_by : (met : Option ℕ) → Met met
      → splice ticks from (end_of_stretch C met) rerun.ticks
      ≡ ticks_of revision.rules (revision.rules.begun revision.new.seed) revision.new.log
  ticks_by None is =
      let n = length-ticks replay.old_play.plays in
      let lines = replay.old_play.lines in
      end_ticks revision.rules replay.shift from C.lines rerun.marks.next ticks rerun.ticks
      replay.new_play.not_after replay.old_play.plays.ticks_are replay.new_play.ticks_are
      (omega arith) is.at_end
  ticks_by (Some index) is =
      met_ticks revision.rules replay.shift from (slice_index C.places index) rerun.marks.next
      ticks rerun.ticks replay.new_play.not_after replay.old_play.plays.ticks_are
      replay.new_play.ticks_are is.agrees is.here

  state_by : (met : Option ℕ) → Met met
      → (meaning (new_state state rerun.marks met)
      ≡ state_after revision.rules (revision.rules.begun revision.new.seed) revision.new.log)
      × is_state (new_state state rerun.marks met)
  state_by None is = (
    replay.new_play.marking.next ∙ ap (states_of_new revision) is.at_end
        ∙ ap (state_after revision.rules (revision.rules.begun revision.new.seed))
        (take-length revision.new.log),
    replay.new_play.marking.next_made,
  )
  state_by (Some index) is = (
    replay.old_play.plays.state_is
        ∙ met_state revision.rules replay.shift (slice_index C.places index) is.agrees,
    replay.old_play.made,
  )

  states_by : (met : Option ℕ) → Met met
      → AreStates meaning is_state (states_of_new revision) (new_places C rerun.marks rerun.at met)
      (new_states C rerun.marks rerun.at met)
  states_by None is =
      end_states C checkpoints replay.old_play.states rerun.at replay.new_play.begun.among
      replay.new_play.not_after rerun.marks replay.new_play.marking
  states_by (Some index) is =
      met_states C checkpoints replay.old_play.states rerun.at replay.new_play.begun.among
      replay.new_play.not_after rerun.marks replay.new_play.marking index is

  pub kept_after : (opening1 : T) (pieces1 : List T) (ticks1 : List Bool) (state1 : State)
      (C1 : CheckpointsView State)
      → MatchOption rerun.opening (opening1 ≡ opening) (λ piece. opening1 ≡ piece)
      → pieces1 ≡ splice pieces (slice_index C.places rerun.at) (end_of_stretch C rerun.met)
      rerun.pieces
      → ticks1 ≡ splice ticks (slice_index C.places rerun.at) (end_of_stretch C rerun.met)
      rerun.ticks
      → state1 ≡ new_state state rerun.marks rerun.met
      → C1.every ≡ C.every → C1.lines ≡ rerun.marks.end
      → C1.places ≡ new_places C rerun.marks rerun.at rerun.met
      → C1.states ≡ new_states C rerun.marks rerun.at rerun.met
      → IsPlaythrough meaning is_state revision.rules revision.new opening1 pieces1 ticks1 state1 C1
  kept_after opening1 pieces1 ticks1 state1 C1 opened pieces_is ticks_is state_is every lines places
      states = record {
        game_is = replay.new_is;
        every_is = rw every replay.old_play.every_is;
        plays = record {
          opening_is =
              opening_after rerun.opening (revision.new.seed ≡ revision.old.seed) opening opening1
              (revision.rules.greeting revision.old.seed)
              (revision.rules.greeting revision.new.seed)
              (λ same. ap revision.rules.greeting (sym same)) replay.new_play.opening_is opened
              replay.old_play.plays.opening_is;
          pieces_are = pieces_is ∙ pieces_by rerun.met replay.new_play.met_is;
          ticks_are = ticks_is ∙ ticks_by rerun.met replay.new_play.met_is;
          state_is = ap meaning state_is ∙ (state_by rerun.met replay.new_play.met_is).0;
        };
        made = rw state_is (state_by rerun.met replay.new_play.met_is).1;
        lines = lines ∙ replay.new_play.end;
        states = rw (places, states) (states_by rerun.met replay.new_play.met_is);
      }

  last_to : IsLastTo C.places revision.head from
  last_to = record {
    checkpoint = contains_at C.places rerun.at replay.new_play.begun.among;
    within = replay.new_play.not_after;
    greatest = λ place (k, below, read) fits.
        let read' : slice_index C.places k ≡ place = get_or_default C.places k 0 place below
        ∙ read in
        elim (cases_lt rerun.at k) [
          | inl later ↦ absurd (let past = replay.new_play.last k later below in omega arith)
          | inr upto ↦ elim (cases_lt k rerun.at) [
            | inl before ↦ let rising =
                rising_lt C.places replay.spacing.rising k rerun.at before
                replay.new_play.begun.among in omega arith
            | inr here ↦ let e : k ≡ rerun.at = omega arith in
                let same = ap (slice_index C.places) e in omega arith
          ]
        ];
  }

  meet_by : (met : Option ℕ) → Met met
      → IsMeet revision.rules revision.old revision.new revision.tail C.places
      (option_map (λ _. rerun.marks.next) met)
  meet_by None is = is.unmet
  meet_by (Some index) is = (
    record {
      place = slice_index C.places index;
      checkpoint = contains_at C.places index is.inside;
      agrees = is.agrees;
      met_is = is.here;
    },
    replay.new_play.none_before,
  )

  played_by : (met : Option ℕ) → Met met → from + (rerun.marks.next - from)
      ≡ unwrap_or (option_map (λ _. rerun.marks.next) met) (length revision.new.log)
  played_by None is =
      let forward = replay.new_play.forward in let end = is.at_end in omega arith
  played_by (Some index) is = let forward = replay.new_play.forward in omega arith

  pub report_after : (changes : List Change) → revision.new ≡ apply_all changes revision.old
      → revision.head ≡ (margins_of changes revision.old.log).head
      → revision.tail ≡ (margins_of changes revision.old.log).tail
      → IsReport revision.rules changes revision.old C.every C.places
      (slice_index C.places rerun.at)
      (option_map (λ _. rerun.marks.next) rerun.met)
      (rerun.marks.next - slice_index C.places rerun.at)
  report_after changes game head_is tail_is =
      let fits = replay.shift.within_old in
      let near =
      near_last checkpoints.spacing
      (record {
        among = replay.new_play.begun.among;
        before = replay.new_play.not_after;
        after = replay.new_play.last;
      }) (omega arith) in
      let forward = replay.new_play.forward in
      record {
        from_is = rw (← head_is) last_to;
        met_is = rw (← game, ← tail_is) (meet_by rerun.met replay.new_play.met_is);
        played_is = rw (← game) (played_by rerun.met replay.new_play.met_is);
        bounded =
            rw (← game, ← head_is, ← tail_is)
            (bounded_to checkpoints from near rerun.marks.next
            replay.new_play.within replay.new_play.none_before (rerun.marks.next - from)
            (omega arith));
      }

  -- the replay didn't meet a checkpoint before the one at which it began
  starts_before : (index : ℕ) → MetAt revision C.places rerun.marks.next index → rerun.at ≤ index
  starts_before index is = elim (cases_lt index rerun.at) [
    | inl before ↦
        let rising = rising_lt C.places replay.spacing.rising index rerun.at before
        replay.new_play.begun.among in
        let late = is.agrees.late in
        let fits = replay.shift.within_old in
        let low = replay.new_play.not_after in
        omega arith
    | inr upto ↦ upto
  ]

  inside_by : (met : Option ℕ) → Met met
      → (rerun.at ≤ checkpoints_passed C met) × ForSome met (λ index. index < length C.places)
  inside_by None is =
      let among = replay.new_play.begun.among in
      (omega arith, λ index some. cc)
  inside_by (Some met) is =
      (starts_before met is, λ index some. let e : met ≡ index = cc in rw (← e) is.inside)

  -- the checkpoint that the replay met is there, and the replay passed the one at which it began
  pub met_inside : (rerun.at ≤ checkpoints_passed C rerun.met)
      × ForSome rerun.met (λ index. index < length C.places)
  met_inside = inside_by rerun.met replay.new_play.met_is

  end_by : (met : Option ℕ) → Met met → (C1 : CheckpointsView State) → C1.lines ≡ C.lines
      → C1.places ≡ C.places → MarksEnd C1 rerun.marks rerun.at met
  end_by None is C1 lines places = is.at_end ∙ sym replay.new_play.end
  end_by (Some index) is C1 lines places =
      let late = is.agrees.late in
      let within = is.agrees.within in
      let inside = is.inside in
      let here = is.here in
      let end = replay.new_play.end in
      let count = replay.old_play.lines in
      let fits = replay.shift.within_old in
      let fits_new = replay.shift.within_new in
      let ordered = starts_before index is in
      rw (lines, places) (ordered, inside, omega arith)

  forward_by : (met : Option ℕ) → Met met → slice_index C.places rerun.at ≤ end_of_stretch C met
  forward_by None is =
      let fits = replay.shift.within_old in
      let count = replay.old_play.lines in
      let low = replay.new_play.not_after in
      omega arith
  forward_by (Some index) is =
      let late = is.agrees.late in
      let fits = replay.shift.within_old in
      let low = replay.new_play.not_after in
      omega arith

  -- what comes in is a stretch of the kept checkpoints, even after these have more room
  pub stretch_ready : (C1 : CheckpointsView State) → C1.every ≡ C.every → C1.lines ≡ C.lines
      → C1.places ≡ C.places → IsStretch C1 rerun.marks rerun.at rerun.met
  stretch_ready C1 every lines places = record {
    begun = record {
      among = rw places replay.new_play.begun.among;
      every = replay.new_play.begun.every ∙ sym every;
      start = rw places replay.new_play.begun.start;
      from = rw places replay.new_play.begun.from;
    };
    ends = end_by rerun.met replay.new_play.met_is C1 lines places;
    forward = rw (stretch_same C1 C lines places rerun.met, places)
        (forward_by rerun.met replay.new_play.met_is);
  }

pub places_same : {State : Type 0} (C1 C : CheckpointsView State) → C1.places ≡ C.places
    → (marks : MarksView State) (at : ℕ) (met : Option ℕ)
    → new_places C1 marks at met ≡ new_places C marks at met
places_same C1 C places marks at None = rw places refl
places_same C1 C places marks at (Some index) = rw places refl

pub states_same : {State : Type 0} (C1 C : CheckpointsView State) → C1.places ≡ C.places
    → C1.states ≡ C.states → (marks : MarksView State) (at : ℕ) (met : Option ℕ)
    → new_states C1 marks at met ≡ new_states C marks at met
states_same C1 C places states marks at None = rw states refl
states_same C1 C places states marks at (Some index) = rw (places, states) refl

-- the reserved room is there for the present checkpoints
pub room_ready : {State : Type 0} (C1 C : CheckpointsView State) → C1.places ≡ C.places
    → (marks : MarksView State) (at : ℕ) (met : Option ℕ)
    → FitsMarks C1 marks at (checkpoints_passed C met)
    → FitsMarks C1 marks at (checkpoints_passed C1 met)
room_ready C1 C places marks at None enough = let same = ap length places in omega arith
room_ready C1 C places marks at (Some index) enough = enough

pub opened_text : {P T : Type 0} (text : P → T) (opening : Option P) (new was old : P) → was ≡ old
    → MatchOption opening (new ≡ was) (λ piece. new ≡ piece)
    → MatchOption (option_map text opening) (text new ≡ text old) (λ said. text new ≡ said)
opened_text text None new was old same m = ap text (m ∙ same)
opened_text text (Some piece) new was old same m = ap text m
