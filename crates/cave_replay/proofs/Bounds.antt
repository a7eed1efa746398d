-- How far a replay goes past the first agreement, and before the first change.
use Rattle.std.proofs.Common.{◌≡◌, ℕ, ◌+◌, ◌-◌, ◌<◌, ◌≤◌, ◌⊎◌, inl, inr, List, length, slice_index}
use Rattle.std.proofs.Common.{Contains, ◌∙◌, arith, suc, zero}
use Rattle.std.proofs.lemmas.Bool.{cases_lt}
use Rattle.std.proofs.lemmas.List.{get_or_default}
use Rattle.replay_checkpoints.specs.Spacing.{IsSpaced}
use Rattle.replay_checkpoints.proofs.Counts.{place_within}
use Rattle.cave_replay.specs.Replay.{Revision, NoneMetBefore, IsWithinBound}
use Rattle.cave_replay.proofs.Revisions.{HasCheckpoints, IsLastIndex, IsUnderway, AgreesIn}
use Rattle.cave_replay.proofs.Revisions.{image_in}
use Rattle.cave_replay.proofs.Shifts.{agrees_later}

-- a checkpoint that isn't before a place, and less than K past it, unless the log's end is as near
abbrev IsNearAfter : ℕ → List ℕ → ℕ → ℕ → Type 0
IsNearAfter K C n i = ((k : ℕ) × (k < length C) × (i ≤ slice_index C k) × (slice_index C k < i + K))
    ⊎ (n < i + K)

walk : (K : ℕ) (C : List ℕ) (n : ℕ) → IsSpaced K C n → (i : ℕ) → (more k : ℕ)
    → k + more + 1 ≡ length C → slice_index C k < i → IsNearAfter K C n i
walk K C n spaced i zero k last before =
    let end = spaced.end k (omega arith) in
    inr (omega arith)
walk K C n spaced i (suc more) k last before =
    let close = spaced.close k (omega arith) in
    elim (cases_lt (slice_index C (k + 1)) i) [
      | inl still ↦ walk K C n spaced i more (k + 1) (omega arith) still
      | inr found ↦ inl (k + 1, omega arith, found, omega arith)
    ]

pub near_after : (K : ℕ) (C : List ℕ) (n : ℕ) → IsSpaced K C n → 0 < K → (i : ℕ)
    → IsNearAfter K C n i
near_after K C n spaced positive i =
    let some = spaced.some in
    let first = spaced.first in
    elim (cases_lt 0 i) [
      | inl later ↦ walk K C n spaced i (length C - 1) 0 (omega arith) (omega arith)
      | inr start ↦ inl (0, some, omega arith, omega arith)
    ]

pub contains_at : (C : List ℕ) (k : ℕ) → k < length C → Contains C (slice_index C k)
contains_at C k below = (k, below, get_or_default C k (slice_index C k) 0 below)

-- what is before every checkpoint that agrees is at most K past any place that agrees
pub near_agreement : {S T : Type 0} {revision : Revision S T} {K : ℕ} {C : List ℕ}
    → HasCheckpoints revision K C → (limit : ℕ) → limit ≤ length revision.new.log
    → NoneMetBefore revision C limit → (place : ℕ) → AgreesIn revision place
    → limit ≤ image_in revision place + K
near_agreement {revision} {K} {C} checkpoints limit within none place here =
    let late = here.late in
    let inside = checkpoints.shift.within_old in
    let inside_new = checkpoints.shift.within_new in
    elim (near_after K C (length revision.old.log) checkpoints.spacing checkpoints.some place) [
      | inr far ↦ omega arith
      | inl near ↦
          let k = near.0 in
          let within_log : slice_index C k ≤ length revision.old.log =
          place_within 0 K C (length revision.old.log) checkpoints.spacing k near.1 in
          let later = agrees_later checkpoints.shift here (slice_index C k) near.2 within_log in
          let before = none (slice_index C k) (contains_at C k near.1) later in
          let close = near.3 in
          omega arith
    ]

-- the last checkpoint that isn't after a place is at most K before it
pub near_last : {K : ℕ} {C : List ℕ} {n at p : ℕ} → IsSpaced K C n → IsLastIndex C p at → p ≤ n
    → p ≤ slice_index C at + K
near_last {C} {at} spaced is within =
    let among = is.among in
    elim (cases_lt (at + 1) (length C)) [
      | inl more ↦
          let close = spaced.close at more in
          let behind = is.after (at + 1) (omega arith) more in
          omega arith
      | inr last ↦
          let end = spaced.end at (omega arith) in
          omega arith
    ]

-- steps up to a place are within the bound if no checkpoint before it agrees
pub bounded_to : {S T : Type 0} {revision : Revision S T} {K : ℕ} {C : List ℕ}
    → HasCheckpoints revision K C → (from : ℕ) → revision.head ≤ from + K → (limit : ℕ)
    → limit ≤ length revision.new.log → NoneMetBefore revision C limit
    → (steps : ℕ) → steps + from ≤ limit → IsWithinBound revision K steps
bounded_to {revision} {K} checkpoints from near limit within none steps few = record {
  agreement = λ place here.
      let end = near_agreement checkpoints limit within none place here in omega arith;
  end = omega arith;
}

-- on the way no checkpoint that agrees is passed
pub underway_none : {S T : Type 0} {revision : Revision S T} {C : List ℕ} {index place : ℕ}
    → IsUnderway revision C index place → NoneMetBefore revision C place
underway_none {revision} {C} {index} underway at (k, below, read) agrees =
    let read' : slice_index C k ≡ at = get_or_default C k 0 at below ∙ read in
    let agrees' : AgreesIn revision (slice_index C k) = rw (← read') at agrees in
    elim (cases_lt k index) [
      | inl before ↦ absurd (underway.passed k before below agrees')
      | inr behind ↦ rw (← read') (underway.ahead k behind below).1
    ]
