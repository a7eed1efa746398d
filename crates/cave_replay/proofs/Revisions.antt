-- What the proofs know of a revision.
use Rattle.std.proofs.Common.{◌≡◌, ℕ, ◌+◌, ◌-◌, ◌<◌, ◌≤◌, List, length}
use Rattle.std.specs.Prelude.{slice_index}
use Rattle.replay_checkpoints.specs.Spacing.{IsSpaced}
use Rattle.cave_replay.specs.Agreement.{AgreesAt, image}
use Rattle.cave_replay.specs.Replay.{Revision, IsShift}

-- the logs share their prefix and their end, and the old one has checkpoints that are this far
-- apart
pub record HasCheckpoints {S T : Type 0} (revision : Revision S T) (every : ℕ)
    (checkpoints : List ℕ) : Type 0 where
  pub some : 0 < every
  pub shift : IsShift revision.old revision.new revision.head revision.tail
  pub spacing : IsSpaced every checkpoints (length revision.old.log)

-- the end that the logs share begins at these places of the old one and of the new one
pub record HasEndAt {S T : Type 0} (revision : Revision S T) (old_place new_place : ℕ) :
    Type 0 where
  pub old_is : old_place + revision.tail ≡ length revision.old.log
  pub new_is : new_place + revision.tail ≡ length revision.new.log

-- at this place of the old log the plays agree
abbrev pub AgreesIn : {S T : Type 0} → Revision S T → ℕ → Type 0
AgreesIn revision place = AgreesAt revision.rules revision.old revision.new revision.tail place

-- where a place of the end that the logs share is in the new one
abbrev pub image_in : {S T : Type 0} → Revision S T → ℕ → ℕ
image_in revision place = image revision.old revision.new place

-- the checkpoint of the index `at` is the last that isn't after a place
pub record IsLastIndex (checkpoints : List ℕ) (place at : ℕ) : Type 0 where
  pub among : at < length checkpoints
  pub before : slice_index checkpoints at ≤ place
  pub after : (k : ℕ) → at < k → k < length checkpoints → place < slice_index checkpoints k

-- The old checkpoints before `index` don't agree; the others are in the unchanged end, and not
-- before the new place `place`.
pub record IsUnderway {S T : Type 0} (revision : Revision S T) (checkpoints : List ℕ)
    (index place : ℕ) : Type 0 where
  pub passed : (k : ℕ) → k < index → k < length checkpoints
      → AgreesIn revision (slice_index checkpoints k) → ⊥
  pub ahead : (k : ℕ) → index ≤ k → k < length checkpoints
      → (length revision.old.log - revision.tail ≤ slice_index checkpoints k)
      × (place ≤ image_in revision (slice_index checkpoints k))
