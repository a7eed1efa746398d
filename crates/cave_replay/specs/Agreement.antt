-- Where an old play and a new one agree, which checkpoint is met, and how much is replayed.
use Rattle.std.specs.Prelude.{◌≡◌, ℕ, ◌+◌, ◌-◌, ◌*◌, ◌<◌, ◌≤◌, List, length, take, Contains, Option}
use Rattle.std.specs.Prelude.{None, Some}
use Rattle.cave_replay.specs.Play.{MachineRules, state_after}
use Rattle.replay_edits.specs.Edit.{Game}

-- the state of a play at a place, which is after this many lines
abbrev pub state_at : {S T : Type 0} → MachineRules S T → Game → ℕ → S
state_at rules game place = state_after rules (rules.begun game.seed) (take place game.log)

-- where a place of the unchanged end of the old log is in the new one
abbrev pub image : Game → Game → ℕ → ℕ
image old new place = place + length new.log - length old.log

-- The plays of the old game and of the new one agree at this place of the old log, in its unchanged
-- end of `tail` lines.
pub record AgreesAt {S T : Type 0} (rules : MachineRules S T) (old new : Game) (tail place : ℕ) :
    Type 0 where
  pub late : length old.log - tail ≤ place
  pub within : place ≤ length old.log
  pub same : state_at rules new (image old new place) ≡ state_at rules old place

-- a place of the old log at which the plays agree, by its place in the new log
pub record IsAgreed {S T : Type 0} (rules : MachineRules S T) (old new : Game)
    (tail agreement : ℕ) :
    Type 0 where
  pub place : ℕ
  pub agrees : AgreesAt rules old new tail place
  pub agreement_is : agreement ≡ image old new place

-- the first place of the new log at which the plays agree, or its length if they don't
pub record IsAgreement {S T : Type 0} (rules : MachineRules S T) (old new : Game)
    (tail agreement : ℕ) :
    Type 0 where
  pub least : (place : ℕ) → AgreesAt rules old new tail place → agreement ≤ image old new place
  pub short : agreement ≤ length new.log
  pub agrees : agreement < length new.log → IsAgreed rules old new tail agreement

-- a checkpoint of the old log at which the plays agree, by its place in the new log
pub record MeetsAt {S T : Type 0} (rules : MachineRules S T) (old new : Game) (tail : ℕ)
    (checkpoints : List ℕ) (met : ℕ) : Type 0 where
  pub place : ℕ
  pub checkpoint : Contains checkpoints place
  pub agrees : AgreesAt rules old new tail place
  pub met_is : met ≡ image old new place

-- no checkpoint at which the plays agree is before this place of the new log
abbrev pub NoneMeetsBefore : {S T : Type 0} → MachineRules S T → Game → Game → ℕ → List ℕ → ℕ
    → Type 0
NoneMeetsBefore rules old new tail checkpoints limit =
    (place : ℕ) → Contains checkpoints place → AgreesAt rules old new tail place
    → limit ≤ image old new place

-- the first checkpoint at which the plays agree, by its place in the new log; none if they agree at
-- none
abbrev pub IsMeet : {S T : Type 0} → MachineRules S T → Game → Game → ℕ → List ℕ → Option ℕ → Type 0
IsMeet rules old new tail checkpoints (Some met) =
    MeetsAt rules old new tail checkpoints met × NoneMeetsBefore rules old new tail checkpoints met
IsMeet rules old new tail checkpoints None =
    (met : ℕ) → MeetsAt rules old new tail checkpoints met → ⊥

-- the greatest of the checkpoints that is not after a place
pub record IsLastTo (checkpoints : List ℕ) (limit from : ℕ) : Type 0 where
  pub checkpoint : Contains checkpoints from
  pub within : from ≤ limit
  pub greatest : (place : ℕ) → Contains checkpoints place → place ≤ limit → place ≤ from

-- This many steps are within the bound: those from the first changed place to any place at which
-- the plays agree, and to the end, each with twice the distance of checkpoints.
pub record IsBounded {S T : Type 0} (rules : MachineRules S T) (old new : Game)
    (head tail every steps : ℕ) : Type 0 where
  pub agreement : (place : ℕ) → AgreesAt rules old new tail place
      → steps ≤ (image old new place - head) + 2 * every
  pub end : steps ≤ (length new.log - head) + 2 * every

-- this many steps are then within the bound of the first agreement
abbrev pub BoundedByFirst : Type 0 → Type 0 → Type 0
BoundedByFirst S T =
    (rules : MachineRules S T) (old new : Game) (head tail every steps : ℕ)
    → IsBounded rules old new head tail every steps
    → (agreement : ℕ) → IsAgreement rules old new tail agreement
    → steps ≤ (agreement - head) + 2 * every
