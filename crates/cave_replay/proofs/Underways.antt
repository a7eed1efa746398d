-- Which of the old checkpoints a replay has passed.
use Rattle.std.proofs.Common.{◌≡◌, ℕ, ◌+◌, ◌-◌, ◌<◌, ◌≤◌, inl, inr, List, length, sym, ap, ◌∙◌}
use Rattle.std.proofs.Common.{arith, suc, zero}
use Rattle.std.specs.Prelude.{slice_index}
use Rattle.std.specs.List.Sorted.{IsStrictlyIncreasing}
use Rattle.std.proofs.lemmas.Bool.{cases_lt}
use Rattle.replay_checkpoints.proofs.Counts.{place_within}
use Rattle.cave_replay.specs.Replay.{Revision, states_of_old, states_of_new, ComesAndAgrees, Passes}
use Rattle.cave_replay.specs.Replay.{MetAt, MetNowhere}
use Rattle.cave_replay.proofs.Bounds.{underway_none}
use Rattle.cave_replay.proofs.Revisions.{HasCheckpoints, HasEndAt, IsUnderway, AgreesIn, image_in}

-- later ones among ascending places are greater
rising_by : (xs : List ℕ) → IsStrictlyIncreasing xs → (i more : ℕ) → i + more + 1 < length xs
    → slice_index xs i < slice_index xs (i + more + 1)
rising_by xs rising i zero below =
    let e : i + 0 + 1 ≡ i + 1 = omega arith in rw e (rising i (omega arith))
rising_by xs rising i (suc more) below =
    let before = rising_by xs rising i more (omega arith) in
    let next = rising (i + more + 1) (omega arith) in
    let e : i + suc more + 1 ≡ i + more + 1 + 1 = omega arith in
    rw e (omega arith)

pub rising_lt : (xs : List ℕ) → IsStrictlyIncreasing xs → (i j : ℕ) → i < j → j < length xs
    → slice_index xs i < slice_index xs j
rising_lt xs rising i j later below =
    let e : i + (j - i - 1) + 1 ≡ j = omega arith in
    rw e at (rising_by xs rising i (j - i - 1) (omega arith))

module _ {S T : Type 0} {revision : Revision S T} {K : ℕ} {C : List ℕ}
    (checkpoints : HasCheckpoints revision K C) where
  -- at the start, if the checkpoints in the unchanged end are found from `index` on
  pub underway_start : (index place : ℕ)
      → ((k : ℕ) → k < index → slice_index C k < length revision.old.log - revision.tail)
      → ((k : ℕ) → index ≤ k → k < length C
      → length revision.old.log - revision.tail ≤ slice_index C k)
      → place ≤ revision.head → IsUnderway revision C index place
  underway_start index place before after near = record {
    passed = λ k below inside agrees. let early = before k below in let late = agrees.late in
        omega arith;
    ahead = λ k from inside.
        let late = after k from inside in
        let fits = checkpoints.shift.within_old in
        let fits_new = checkpoints.shift.within_new in
        (late, omega arith);
  }

  -- the checkpoint is here, and the plays don't agree
  underway_pass : (index place : ℕ) → IsUnderway revision C index place → index < length C
      → image_in revision (slice_index C index) ≡ place
      → (states_of_new revision place ≡ states_of_old revision (slice_index C index) → ⊥)
      → IsUnderway revision C (index + 1) (place + 1)
  underway_pass index place underway inside here differ = record {
    passed = λ k below within agrees.
        elim (cases_lt k index) [
          | inl before ↦ underway.passed k before within agrees
          | inr at ↦
              let e : k ≡ index = omega arith in
              let agrees' : AgreesIn revision (slice_index C index) = rw e at agrees in
              differ (ap (states_of_new revision) (sym here) ∙ agrees'.same)
        ];
    ahead = λ k from within.
        let further = underway.ahead k (omega arith) within in
        let late = further.0 in
        let rising = rising_lt C checkpoints.spacing.rising index k (omega arith) within in
        let first = underway.ahead index (omega arith) inside in
        let fits = checkpoints.shift.within_old in
        let fits_new = checkpoints.shift.within_new in
        (late, omega arith);
  }

  -- no checkpoint is here
  underway_none_here : (index place : ℕ) → IsUnderway revision C index place
      → (index < length C → image_in revision (slice_index C index) ≡ place → ⊥)
      → IsUnderway revision C index (place + 1)
  underway_none_here index place underway away = record {
    passed = underway.passed;
    ahead = λ k from within.
        let further = underway.ahead k from within in
        let late = further.0 in
        let inside : index < length C = omega arith in
        let first = underway.ahead index (omega arith) inside in
        let fits = checkpoints.shift.within_old in
        let fits_new = checkpoints.shift.within_new in
        let beyond : place < image_in revision (slice_index C index) =
        elim (cases_lt place (image_in revision (slice_index C index))) [
          | inl after ↦ after
          | inr upto ↦ absurd (away inside (let low = first.1 in omega arith))
        ] in
        elim (cases_lt index k) [
          | inl later ↦ (
            late,
            (let rising = rising_lt C checkpoints.spacing.rising index k later within in
                let first_late = first.0 in omega arith),
          )
          | inr same ↦ let e : k ≡ index = omega arith in (
            late,
            (let beyond' : place < image_in revision (slice_index C k) = rw e beyond in
                omega arith),
          )
        ];
  }

  -- the checkpoint is here, and the plays agree
  underway_met : (index place : ℕ) → IsUnderway revision C index place → index < length C
      → image_in revision (slice_index C index) ≡ place
      → states_of_new revision place ≡ states_of_old revision (slice_index C index)
      → AgreesIn revision (slice_index C index)
  underway_met index place underway inside here same = record {
    late = (underway.ahead index (omega arith) inside).0;
    within = place_within 0 K C (length revision.old.log) checkpoints.spacing index inside;
    same = ap (states_of_new revision) here ∙ same;
  }

  -- where a place of the unchanged end is in the new log
  stands : {old_place new_place : ℕ} → HasEndAt revision old_place new_place → (place : ℕ)
      → old_place ≤ place → place - old_place + new_place ≡ image_in revision place
  stands ends place late = let o = ends.old_is in let n = ends.new_is in omega arith

  -- after a place is passed
  pub underway_further : {index place old_place new_place : ℕ}
      → HasEndAt revision old_place new_place → IsUnderway revision C index place → (further : ℕ)
      → Passes (states_of_old revision) (states_of_new revision) C index old_place new_place place
      further
      → IsUnderway revision C further (place + 1)
  underway_further {index} {place} ends underway further (inl away) =
      rw away.further_is (underway_none_here index place underway (λ inside here.
      let late = (underway.ahead index (omega arith) inside).0 in let begins = ends.old_is in
      away.elsewhere inside (stands ends (slice_index C index) (omega arith) ∙ here)))
  underway_further {index} {place} ends underway further (inr passed) =
      let late = (underway.ahead index (omega arith) passed.inside).0 in
      let begins = ends.old_is in
      rw passed.further_is
      (underway_pass index place underway passed.inside
      (sym (stands ends (slice_index C index) (omega arith)) ∙ passed.here) passed.differs)

  -- the checkpoint that was met
  pub underway_agrees : {index place old_place new_place : ℕ}
      → HasEndAt revision old_place new_place → IsUnderway revision C index place
      → ComesAndAgrees (states_of_old revision) (states_of_new revision) C index old_place new_place
      place
      → MetAt revision C place index
  underway_agrees {index} {place} ends underway met =
      let late = (underway.ahead index (omega arith) met.inside).0 in
      let begins = ends.old_is in
      let here = sym (stands ends (slice_index C index) (omega arith)) ∙ met.here in
      record {
        inside = met.inside;
        agrees = underway_met index place underway met.inside here met.same;
        here = sym here;
      }

  -- past the end no checkpoint is left to meet
  pub underway_end : {index place : ℕ} → IsUnderway revision C index place
      → length revision.new.log < place → (next : ℕ) → next ≡ length revision.new.log
      → MetNowhere revision C next (length revision.new.log)
  underway_end {index} {place} underway past next at_end = record {
    at_end = at_end;
    unmet = λ met meets.
        let limit = underway_none underway meets.place meets.checkpoint meets.agrees in
        let within = meets.agrees.within in
        let late = meets.agrees.late in
        let fits = checkpoints.shift.within_old in
        let fits_new = checkpoints.shift.within_new in
        omega arith;
  }
