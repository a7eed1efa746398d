-- What a report on edits says of a replay.
use Rattle.std.specs.Prelude.{◌≡◌, ℕ, ◌+◌, ◌-◌, ◌≤◌, List, [], ◌∷◌, length, Option, MatchOption}
use Rattle.std.specs.Prelude.{unwrap_or}
use Rattle.cave_replay.specs.Play.{MachineRules}
use Rattle.replay_edits.specs.Edit.{Game, Change, apply_all, margins_of}
use Rattle.replay_edits.specs.Faults.{group_fault, edit_fault, steps_left}
use Rattle.cave_replay.specs.Agreement.{IsLastTo, IsMeet, IsBounded}

-- a count that was `old` has risen by at most `most`
pub record RisesByAtMost (old new most : ℕ) : Type 0 where
  pub risen : old ≤ new
  pub bounded : new ≤ old + most

-- this many steps are within the bound of a replay of changes
abbrev pub IsBoundedFor : {S T : Type 0} → MachineRules S T → List Change → Game → ℕ → ℕ → Type 0
IsBoundedFor rules changes old every steps =
    let margins = margins_of changes old.log in
    IsBounded rules old (apply_all changes old) margins.head margins.tail every steps

-- The replay of changes began at the last checkpoint that isn't after the first change, met the old
-- play at the first checkpoint at which the plays agree, if there is one, and played what lies
-- between its start and that checkpoint, or the end: no more than from the first change to any
-- agreement or to the end, and twice the distance of checkpoints.
pub record IsReport {S T : Type 0} (rules : MachineRules S T) (changes : List Change) (old : Game)
    (every : ℕ) (checkpoints : List ℕ) (from : ℕ) (met : Option ℕ) (played : ℕ) : Type 0 where
  pub from_is : IsLastTo checkpoints (margins_of changes old.log).head from
  pub met_is : IsMeet rules old (apply_all changes old) (margins_of changes old.log).tail
      checkpoints met
  pub played_is : from + played ≡ unwrap_or met (length (apply_all changes old).log)
  pub bounded : IsBoundedFor rules changes old every played

-- A meter rose by no more steps than the bound of a replay of changes; at a fault other than out of
-- memory, by none.
abbrev pub AreStepsBounded : {S T F : Type 0}
    → MachineRules S T → List Change → Game → ℕ → Option F → ℕ → ℕ → Type 0
AreStepsBounded rules changes old every fault before after =
    MatchOption fault
    ((before ≤ after) × IsBoundedFor rules changes old every (after - before))
    (λ _. after ≡ before)

-- how a meter rises at a group of changes, by the fault of the group
abbrev pub AreGroupSteps : {S T : Type 0} → MachineRules S T → List Change → Game → ℕ → ℕ → ℕ
    → Type 0
AreGroupSteps rules changes old every before after =
    let fault = group_fault changes old.log (steps_left before) in
    AreStepsBounded rules changes old every fault before after

-- how a meter rises at one change, by its fault
abbrev pub AreEditSteps : {S T : Type 0} → MachineRules S T → Change → Game → ℕ → ℕ → ℕ → Type 0
AreEditSteps rules change old every before after =
    let fault = edit_fault change old.log (steps_left before) in
    AreStepsBounded rules (change ∷ []) old every fault before after
