-- What is kept after a replay is taken over: the play of the new game, and the states at its
-- checkpoints.
use Rattle.std.proofs.Common.{◌≡◌, ℕ, ◌+◌, ◌-◌, ◌<◌, ◌≤◌, Bool, List, [], ◌++◌, length, take, drop}
use Rattle.std.proofs.Common.{map, All, refl, sym, ap, ◌∙◌, arith, Some, None, zero, suc, inl, inr}
use Rattle.std.specs.Prelude.{slice_index}
use Rattle.std.specs.List.{splice}
use Rattle.std.proofs.Math.Seq.{take-length}
use Rattle.std.proofs.lemmas.List.{append_assoc, map-append, take-map, drop-map, append-nil}
use Rattle.std.proofs.lemmas.List.{drop_all, length-map}
use Rattle.std.proofs.lemmas.List.Elements.{All-append, All-take, All-drop}
use Rattle.std.proofs.lemmas.Bool.{cases_lt}
use Rattle.replay_checkpoints.specs.Marks.{MarksView, CheckpointsView, places_before, states_before}
use Rattle.replay_checkpoints.specs.Marks.{next_place, after_shift}
use Rattle.replay_checkpoints.proofs.Counts.{place_within}
use Rattle.replay_checkpoints.proofs.NextPlaceLemmas.{states_joined_follow}
use Rattle.cave_replay.specs.Play.{MachineRules, state_after, texts_of, ticks_of}
use Rattle.replay_edits.specs.Edit.{Game}
use Rattle.cave_replay.specs.Agreement.{state_at, image, AgreesAt}
use Rattle.cave_replay.specs.Replay.{Revision, IsShift, texts_at, ticks_at, AreStates, IsMarking}
use Rattle.cave_replay.specs.Replay.{states_of_old, states_of_new, MetAt}
use Rattle.cave_replay.specs.Takeover.{new_places, new_states}
use Rattle.cave_replay.proofs.Marking.{states_of_before}
use Rattle.cave_replay.proofs.Revisions.{HasCheckpoints, IsLastIndex, image_in}
use Rattle.cave_replay.proofs.Shifts.{rest_at, last_state_from, texts_from, ticks_from, take-texts}
use Rattle.cave_replay.proofs.Shifts.{drop-texts, take-ticks, drop-ticks, state_at-prefix}
use Rattle.cave_replay.proofs.Shifts.{texts_at-prefix, ticks_at-prefix, agrees_later}
use Rattle.cave_replay.proofs.Underways.{rising_lt}

-- the splice of a map
pub map-splice : {X Y : Type 0} (f : X → Y) (xs middle : List X) (from to : ℕ)
    → map f (splice xs from to middle) ≡ splice (map f xs) from to (map f middle)
map-splice f xs middle from to =
    map-append f (take from xs) (middle ++ drop to xs)
    ∙ ap (λ x. map f (take from xs) ++ x) (map-append f middle (drop to xs))
    ∙ rw (take-map f from xs, drop-map f to xs) refl

module _ {S T : Type 0} (rules : MachineRules S T) {old new : Game} {head tail : ℕ}
    (shift : IsShift old new head tail) where
  -- in the prefix both plays are the same, or the new one begins at its start
  prefix_texts : (from : ℕ) → from ≤ head
      → take from (texts_of rules (rules.begun old.seed) old.log) ≡ texts_at rules new from
  prefix_texts zero within = refl
  prefix_texts (suc from) within =
      let fits = shift.within_old in
      take-texts rules old (suc from) (omega arith)
      ∙ sym (texts_at-prefix rules shift (shift.seed (omega arith)) (suc from) within)

  prefix_ticks : (from : ℕ) → from ≤ head
      → take from (ticks_of rules (rules.begun old.seed) old.log) ≡ ticks_at rules new from
  prefix_ticks zero within = refl
  prefix_ticks (suc from) within =
      let fits = shift.within_old in
      take-ticks rules old (suc from) (omega arith)
      ∙ sym (ticks_at-prefix rules shift (shift.seed (omega arith)) (suc from) within)

  -- pieces of the whole new play, if it met the old one
  pub met_texts : (from place next : ℕ) (old_pieces pieces : List T) → from ≤ head
      → old_pieces ≡ texts_of rules (rules.begun old.seed) old.log
      → texts_at rules new from ++ pieces ≡ texts_at rules new next
      → AgreesAt rules old new tail place → next ≡ image old new place
      → splice old_pieces from place pieces ≡ texts_of rules (rules.begun new.seed) new.log
  met_texts from place next old_pieces pieces within are said agrees here =
      let rest = rest_at shift place agrees.late agrees.within in
      rw (are, prefix_texts from within, drop-texts rules old place agrees.within)
      (sym (append_assoc (texts_at rules new from) pieces
      (texts_of rules (state_at rules old place) (drop place old.log)))
      ∙ rw (said, here, texts_from rules new (image old new place), agrees.same, rest) refl)

  pub met_ticks : (from place next : ℕ) (old_ticks ticks : List Bool) → from ≤ head
      → old_ticks ≡ ticks_of rules (rules.begun old.seed) old.log
      → ticks_at rules new from ++ ticks ≡ ticks_at rules new next
      → AgreesAt rules old new tail place → next ≡ image old new place
      → splice old_ticks from place ticks ≡ ticks_of rules (rules.begun new.seed) new.log
  met_ticks from place next old_ticks ticks within are said agrees here =
      let rest = rest_at shift place agrees.late agrees.within in
      rw (are, prefix_ticks from within, drop-ticks rules old place agrees.within)
      (sym (append_assoc (ticks_at rules new from) ticks
      (ticks_of rules (state_at rules old place) (drop place old.log)))
      ∙ rw (said, here, ticks_from rules new (image old new place), agrees.same, rest) refl)

  pub met_state : (place : ℕ) → AgreesAt rules old new tail place
      → state_after rules (rules.begun old.seed) old.log
      ≡ state_after rules (rules.begun new.seed) new.log
  met_state place agrees =
      let rest = rest_at shift place agrees.late agrees.within in
      last_state_from rules old place
      ∙ sym (last_state_from rules new (image old new place) ∙ rw (agrees.same, rest) refl)

  -- pieces of the whole new play, if it was played to its end
  pub end_texts : (from to next : ℕ) (old_pieces pieces : List T) → from ≤ head
      → old_pieces ≡ texts_of rules (rules.begun old.seed) old.log
      → texts_at rules new from ++ pieces ≡ texts_at rules new next → length old_pieces ≤ to
      → next ≡ length new.log
      → splice old_pieces from to pieces ≡ texts_of rules (rules.begun new.seed) new.log
  end_texts from to next old_pieces pieces within are said past here =
      rw (drop_all to old_pieces past, append-nil pieces, are, prefix_texts from within)
      (said ∙ rw (here, take-length new.log) refl)

  pub end_ticks : (from to next : ℕ) (old_ticks ticks : List Bool) → from ≤ head
      → old_ticks ≡ ticks_of rules (rules.begun old.seed) old.log
      → ticks_at rules new from ++ ticks ≡ ticks_at rules new next → length old_ticks ≤ to
      → next ≡ length new.log
      → splice old_ticks from to ticks ≡ ticks_of rules (rules.begun new.seed) new.log
  end_ticks from to next old_ticks ticks within are said past here =
      rw (drop_all to old_ticks past, append-nil ticks, are, prefix_ticks from within)
      (said ∙ rw (here, take-length new.log) refl)

-- the states that are joined were all made
joined_made : {State : Type 0} (is_state : State → Type 0) (states middle : List State)
    (head rest : ℕ) → All is_state states → All is_state middle
    → All is_state (take head states ++ (middle ++ drop rest states))
joined_made is_state states middle head rest made middle_made =
    All-append is_state (take head states) (middle ++ drop rest states)
    (All-take is_state head states made)
    (All-append is_state middle (drop rest states) middle_made
    (All-drop is_state rest states made))

no_rest : {X : Type 0} (xs ys : List X) (rest : ℕ) → length ys ≤ rest → xs ++ drop rest ys ≡ xs
no_rest xs ys rest past = rw (drop_all rest ys past) (append-nil xs)

no_moved : (places : List ℕ) (rest old new : ℕ) → length places ≤ rest
    → after_shift places rest old new ≡ []
no_moved places rest old new past = rw (drop_all rest places past) refl

module _ {State S T : Type 0} {meaning : State → S} {is_state : State → Type 0}
    {revision : Revision S T} (C : CheckpointsView State)
    (checkpoints : HasCheckpoints revision C.every C.places)
    (are : AreStates meaning is_state (states_of_old revision) C.places C.states)
    (at : ℕ) (among : at < length C.places) (not_after : slice_index C.places at ≤ revision.head)
    (marks : MarksView State)
    (marking : IsMarking meaning is_state (states_of_new revision) marks) where
  -- before the checkpoint of the index `at` the states are also those of the new play
  prefix_states : (i : ℕ) → i < at - 1
      → states_of_old revision (slice_index C.places i)
      ≡ states_of_new revision (slice_index C.places i)
  prefix_states i before =
      let rising = rising_lt C.places checkpoints.spacing.rising i at (omega arith) among in
      sym (state_at-prefix revision.rules checkpoints.shift (checkpoints.shift.seed (omega arith))
      (slice_index C.places i) (omega arith))

  pub met_states : (index : ℕ) → MetAt revision C.places marks.next index
      → AreStates meaning is_state (states_of_new revision) (new_places C marks at (Some index))
      (new_states C marks at (Some index))
  met_states index met =
      let agrees = met.agrees in
      let place = slice_index C.places index in
      let f = next_place C.places (index + 1) place marks.next marks.end in
      let before = states_of_before meaning is_state (states_of_new revision) marks f marking in
      record {
        meanings =
            states_joined_follow meaning (states_of_old revision) (states_of_new revision) C.places
            C.states (at - 1) (index + 1) place marks.next (places_before marks f)
            (states_before marks f)
            (omega arith) are.meanings prefix_states before.meanings
            (λ i from below.
            let spacing = checkpoints.spacing in
            let rising = rising_lt C.places spacing.rising index i (omega arith) below in
            let within =
            place_within 0 C.every C.places (length revision.old.log) spacing i below in
            let late = agrees.late in
            let fits = checkpoints.shift.within_old in
            let fits_new = checkpoints.shift.within_new in
            let later =
            agrees_later checkpoints.shift agrees (slice_index C.places i) (omega arith) within in
            let e : slice_index C.places i - place + marks.next
            ≡ image_in revision (slice_index C.places i) = rw met.here (omega arith) in
            rw e (sym later.same));
        made = joined_made is_state C.states (states_before marks f) (at - 1) (index + 1) are.made
            before.made;
      }

  pub end_states : AreStates meaning is_state (states_of_new revision) (new_places C marks at None)
      (new_states C marks at None)
  end_states =
      let n = length-map C.states meaning in
      let m = length-map C.places (states_of_old revision) in
      let same = ap length are.meanings in
      let rest = length C.places in
      let places : take (at - 1) C.places
      ++ (marks.places ++ after_shift C.places rest 0 0) ≡ take (at - 1) C.places
      ++ marks.places =
      ap (λ x. take (at - 1) C.places ++ (marks.places ++ x))
      (no_moved C.places rest 0 0 (omega arith))
      ∙ ap (λ x. take (at - 1) C.places ++ x) (append-nil marks.places) in
      let states : take (at - 1) C.states
      ++ (marks.states ++ drop rest C.states) ≡ take (at - 1) C.states ++ marks.states =
      ap (λ x. take (at - 1) C.states ++ x)
      (no_rest marks.states C.states rest (omega arith)) in
      record {
        meanings = ap (map meaning) (sym states)
            ∙ states_joined_follow meaning (states_of_old revision) (states_of_new revision)
            C.places C.states (at - 1) rest 0 0 marks.places marks.states (omega arith) are.meanings
            prefix_states marking.kept.meanings (λ i from below. absurd (omega arith))
            ∙ ap (map (states_of_new revision)) places;
        made = rw (← states)
            (joined_made is_state C.states marks.states (at - 1) rest are.made marking.kept.made);
      }

-- up to the checkpoint at which a replay begins, the old states are those of a new play with the
-- same seed
pub prefix_are : {State S T : Type 0} {meaning : State → S} {is_state : State → Type 0}
    {revision : Revision S T} → revision.new.seed ≡ revision.old.seed
    → (C : CheckpointsView State) → HasCheckpoints revision C.every C.places
    → AreStates meaning is_state (states_of_old revision) C.places C.states
    → (at : ℕ) → IsLastIndex C.places revision.head at
    → AreStates meaning is_state (states_of_new revision) (take (at + 1) C.places)
    (take (at + 1) C.states)
prefix_are {meaning} {is_state} {revision} seed C checkpoints are at last =
    let among = last.among in
    let not_after = last.before in
    let n = length-map C.states meaning in
    let m = length-map C.places (states_of_old revision) in
    let same = ap length are.meanings in
    let rest = length C.places in
    let prefix : (i : ℕ) → i < at + 1
    → states_of_old revision (slice_index C.places i)
    ≡ states_of_new revision (slice_index C.places i) =
    λ i below. elim (cases_lt i at) [
      | inl before ↦
          let rising = rising_lt C.places checkpoints.spacing.rising i at before last.among in
          sym (state_at-prefix revision.rules checkpoints.shift seed (slice_index C.places i)
          (omega arith))
      | inr here ↦ let e : i ≡ at = omega arith in
          sym (state_at-prefix revision.rules checkpoints.shift seed (slice_index C.places i)
          (rw e not_after))
    ] in
    let places : take (at + 1) C.places
    ++ ([] ++ after_shift C.places rest 0 0) ≡ take (at + 1) C.places =
    ap (λ x. take (at + 1) C.places ++ x) (no_moved C.places rest 0 0 (omega arith))
    ∙ append-nil (take (at + 1) C.places) in
    let states : take (at + 1) C.states ++ ([] ++ drop rest C.states) ≡ take (at + 1) C.states =
    ap (λ x. take (at + 1) C.states ++ x) (drop_all rest C.states (omega arith))
    ∙ append-nil (take (at + 1) C.states) in
    record {
      meanings = ap (map meaning) (sym states)
          ∙ states_joined_follow meaning (states_of_old revision) (states_of_new revision) C.places
          C.states (at + 1) rest 0 0 [] [] (omega arith) are.meanings prefix refl
          (λ i from below. absurd (omega arith))
          ∙ ap (map (states_of_new revision)) places;
      made = All-take is_state (at + 1) C.states are.made;
    }
