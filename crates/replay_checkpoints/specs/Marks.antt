-- What contracts see of marks that are being thinned, and of the checkpoints of a log.
use Rattle.std.specs.Prelude.{◌≡◌, ℕ, ◌+◌, ◌-◌, ◌<◌, ◌≤◌, Bool, nat_lt, if◌then◌else◌, List, []}
use Rattle.std.specs.Prelude.{◌∷◌, ◌++◌, length, take, drop, slice_index, map}
use Rattle.replay_checkpoints.specs.Spacing.{IsSpaced, IsSpacedFrom}

pub record PlacedView (S : Type 0) : Type 0 where
  pub places : List ℕ
  pub states : List S
  pub room : ℕ

-- The kept places of a stream that began with `start` and `from`, and whose last place, `next`, may
-- still be kept.
pub record IsThinned (start from K : ℕ) (places : List ℕ) (next : ℕ) : Type 0 where
  pub spaced : IsSpacedFrom start K places next
  pub ahead : (i : ℕ) → i + 2 ≡ length places → slice_index places i + K < next
  pub past : (i : ℕ) → 0 < i → i < length places → from ≤ slice_index places i
  pub reached : from ≤ next

-- the places from the index `rest` on, after the old place `old` has become `new`
abbrev pub after_shift : List ℕ → ℕ → ℕ → ℕ → List ℕ
after_shift places rest old new = map (λ place. place - old + new) (drop rest places)

-- The new places end at the old place `old`, in a log of `lines` lines, and the checkpoints from
-- the index `rest` on follow it as spaced places do.
pub record IsRest (K : ℕ) (places : List ℕ) (lines old rest : ℕ) : Type 0 where
  pub inside : old ≤ lines
  pub within : rest ≤ length places
  pub ends : rest ≡ length places → lines ≤ old + K
  pub next : rest < length places → (old < slice_index places rest)
      × (slice_index places rest ≤ old + K)
  pub beyond : rest + 1 < length places → old + K < slice_index places (rest + 1)

-- The stream began with the first of `places` and `from`. Its last place, `next`, is still open;
-- none is past `end`.
pub record MarksView (S : Type 0) : Type 0 where
  pub every : ℕ
  pub end : ℕ
  pub from : ℕ
  pub places : List ℕ
  pub states : List S
  pub next : ℕ
  pub state : S

-- the checkpoints of a log of this many lines
pub record CheckpointsView (S : Type 0) : Type 0 where
  pub every : ℕ
  pub lines : ℕ
  pub places : List ℕ
  pub states : List S
  pub room : ℕ

-- marks whose open place has another state
abbrev pub marks_with_state : {S : Type 0} → MarksView S → S → MarksView S
marks_with_state marks state = record marks { state = state }

-- does `place` lie too far after the last of the places?
abbrev pub is_far : ℕ → List ℕ → ℕ → Bool
is_far every places place = nat_lt (slice_index places (length places - 1) + every) place

-- the kept places if `place` follows the one that is still open, and their states
abbrev pub places_before : {S : Type 0} → MarksView S → ℕ → List ℕ
places_before marks place =
    if is_far marks.every marks.places place then marks.places ++ marks.next ∷ [] else marks.places

abbrev pub states_before : {S : Type 0} → MarksView S → ℕ → List S
states_before marks place =
    if is_far marks.every marks.places place then marks.states ++ marks.state ∷ [] else marks.states

-- what stays true of marks as they go on
pub record IsSound (every end from : ℕ) (places : List ℕ) (states next room : ℕ) : Type 0 where
  pub thinned : IsThinned (slice_index places 0) from every places next
  pub within : next ≤ end
  pub even : states ≡ length places
  pub enough : length places < room

-- `marks` began at the checkpoint of the index `at`, with the one before it
pub record IsBegunAt {S : Type 0} (checkpoints : CheckpointsView S) (at : ℕ) (marks : MarksView S) :
    Type 0 where
  pub among : at < length checkpoints.places
  pub every : marks.every ≡ checkpoints.every
  pub start : slice_index marks.places 0 ≡ slice_index checkpoints.places (at - 1)
  pub from : marks.from ≡ slice_index checkpoints.places at

-- what follows the new place `new`, which was the old place `old`: the checkpoint of the index
-- `rest`, moved as that place was, or the end
abbrev pub next_place : List ℕ → ℕ → ℕ → ℕ → ℕ → ℕ
next_place places rest old new end =
    if nat_lt rest (length places) then slice_index places rest - old + new else end

-- The checkpoints before those that marks began with, what the marks keep, and the checkpoints
-- after the one of the index `met`, moved as that one moves to the open place of the marks.
abbrev pub places_met : {S : Type 0} → CheckpointsView S → MarksView S → ℕ → ℕ → List ℕ
places_met checkpoints marks at met =
    let old = slice_index checkpoints.places met in
    take (at - 1) checkpoints.places
    ++ (places_before marks (next_place checkpoints.places (met + 1) old marks.next marks.end)
    ++ after_shift checkpoints.places (met + 1) old marks.next)

abbrev pub states_met : {S : Type 0} → CheckpointsView S → MarksView S → ℕ → ℕ → List S
states_met checkpoints marks at met =
    let old = slice_index checkpoints.places met in
    take (at - 1) checkpoints.states
    ++ (states_before marks (next_place checkpoints.places (met + 1) old marks.next marks.end)
    ++ drop (met + 1) checkpoints.states)

-- checkpoints are spaced, and each has a state
pub record AreCheckpoints (every lines : ℕ) (places : List ℕ) (states : ℕ) : Type 0 where
  pub spaced : IsSpaced every places lines
  pub even : states ≡ length places
