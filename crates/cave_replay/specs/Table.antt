-- What one change of a log leaves alone, by its kind.
use Rattle.std.specs.Prelude.{◌≡◌, ℕ, ◌+◌, ◌-◌, ◌≤◌, [], ◌∷◌, length, None}
use Rattle.replay_edits.specs.Edit.{Game, Change, inserts, deletes, replaces, reseeds, apply}
use Rattle.replay_edits.specs.Edit.{margins_of}
use Rattle.replay_edits.specs.Faults.{fault_of}
use Rattle.cave_replay.specs.Agreement.{image}

-- the first place that a change changes
abbrev pub first_changed : Change → ℕ
first_changed (inserts place line) = place
first_changed (deletes place) = place
first_changed (replaces place line) = place
first_changed (reseeds seed) = 0

-- the place of the old log from which its lines stay
abbrev pub rest_from : Change → ℕ
rest_from (inserts place line) = place
rest_from (deletes place) = place + 1
rest_from (replaces place line) = place + 1
rest_from (reseeds seed) = 0

-- where such a place is in the new log
abbrev pub place_after : Change → ℕ → ℕ
place_after (inserts edited line) place = place + 1
place_after (deletes edited) place = place - 1
place_after (replaces edited line) place = place
place_after (reseeds seed) place = place

-- what the group of just one change leaves alone is what this table says
pub record IsByTable (change : Change) (game : Game) : Type 0 where
  pub first : (margins_of (change ∷ []) game.log).head ≡ first_changed change
  pub rest : length game.log - (margins_of (change ∷ []) game.log).tail ≡ rest_from change
  pub moved : (place : ℕ) → rest_from change ≤ place → place ≤ length game.log
      → image game (apply change game) place ≡ place_after change place

-- this holds of every change that meets no fault
abbrev pub ByTable : Type 0
ByTable =
    (change : Change) (game : Game) → fault_of change game.log ≡ None → IsByTable change game
