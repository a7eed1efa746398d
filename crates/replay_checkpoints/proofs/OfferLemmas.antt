-- What going on to a place does to marks.
use Rattle.std.proofs.Common.{◌≡◌, ℕ, ◌+◌, ◌-◌, ◌<◌, ◌≤◌, Bool, true, false, List, [], ◌∷◌, ◌++◌}
use Rattle.std.proofs.Common.{length, arith, refl, ap}
use Rattle.std.specs.Prelude.{slice_index, if◌then◌else◌}
use borrow.Author.Tests.{ltb-true, ltb-false}
use Rattle.std.proofs.lemmas.List.{length_push}
use Rattle.replay_checkpoints.specs.Marks.{IsThinned, IsSound, is_far}
use Rattle.replay_checkpoints.proofs.Runs.{at_left}
use Rattle.replay_checkpoints.proofs.ThinningLemmas.{thinned_keep, thinned_pass}

pub last_at : (places : List ℕ) (i : ℕ) → i + 1 ≡ length places
    → slice_index places i ≡ slice_index places (length places - 1)
last_at places i e = let at : i ≡ length places - 1 = omega arith in ap (slice_index places) at

-- the open place is kept
module _ (start from every : ℕ) (places : List ℕ) (next place : ℕ)
    (t : IsThinned start from every places next) (up : next ≤ place) (near : place ≤ next + every)
    (far : slice_index places (length places - 1) + every < place) where
  pub kept_thinned : IsThinned start from every (places ++ next ∷ []) place
  kept_thinned =
      thinned_keep start from every places next place t (λ i e. omega (arith, last_at places i e))
      up near

before_at : (start from every : ℕ) (places : List ℕ) (next place : ℕ)
    → IsThinned start from every places next → next ≤ place → place ≤ next + every → (far : Bool)
    → is_far every places place ≡ far → (places' : List ℕ)
    → places' ≡ (if far then places ++ next ∷ [] else places)
    → IsThinned start from every places' place
before_at start from every places next place t up near true test places' p =
    rw p (kept_thinned start from every places next place t up near (ltb-true _ _ test))
before_at start from every places next place t up near false test places' p =
    let close : place ≤ slice_index places (length places - 1) + every = ltb-false _ _ test in
    rw p (thinned_pass start from every places next place t
    (λ i e. omega (arith, last_at places i e)) up)

-- what is kept before the next place is thinned up to it
pub thinned_before : (start from every : ℕ) (places : List ℕ) (next place : ℕ)
    → IsThinned start from every places next → next ≤ place → place ≤ next + every
    → (places' : List ℕ)
    → places' ≡ (if is_far every places place then places ++ next ∷ [] else places)
    → IsThinned start from every places' place
thinned_before start from every places next place t up near places' p =
    before_at start from every places next place t up near (is_far every places place) refl places'
    p

-- marks stay sound if the open place is kept, with room for the next one
pub sound_kept : {S : Type 0} (every end from : ℕ) (places : List ℕ) (states : List S) (next : ℕ)
    (state : S) (room place : ℕ) (places' : List ℕ) (states' : List S) (room' : ℕ)
    → IsSound every end from places (length states) next room → next ≤ place → place ≤ next + every
    → place ≤ end → is_far every places place ≡ true → places' ≡ places ++ next ∷ []
    → states' ≡ states ++ state ∷ [] → length places + 2 ≤ room'
    → IsSound every end from places' (length states') place room'
sound_kept every end from places states next state room place places' states' room' sound up near
    within test p s enough =
    let far : slice_index places (length places - 1) + every < place = ltb-true _ _ test in
    let start = slice_index places 0 in
    let same : slice_index (places ++ next ∷ []) 0 ≡ start =
    at_left places (next ∷ []) 0 sound.thinned.spaced.some in
    let thinned : IsThinned start from every (places ++ next ∷ []) place =
    kept_thinned start from every places next place sound.thinned up near far in
    rw (p, s) (record {
      thinned = rw same thinned;
      within = within;
      even = omega (arith, length_push places next, length_push states state, sound.even);
      enough = omega (arith, length_push places next);
    })

-- marks stay sound if the open place is passed
pub sound_passed : (every end from : ℕ) (places : List ℕ) (states next room place : ℕ)
    → IsSound every end from places states next room → next ≤ place → place ≤ end
    → is_far every places place ≡ false → IsSound every end from places states place room
sound_passed every end from places states next room place sound up within test =
    let close : place ≤ slice_index places (length places - 1) + every = ltb-false _ _ test in
    record {
      thinned =
          thinned_pass (slice_index places 0) from every places next place sound.thinned
          (λ i e. omega (arith, last_at places i e)) up;
      within = within;
      even = sound.even;
      enough = sound.enough;
    }
