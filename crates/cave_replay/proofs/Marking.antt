-- The states at checkpoints and marks.
use Rattle.std.proofs.Common.{◌≡◌, ℕ, ◌+◌, ◌-◌, ◌<◌, Bool, true, false, cond, List, [], ◌∷◌, ◌++◌}
use Rattle.std.proofs.Common.{length, take, map, get_or, All, refl, sym, ap, ◌∙◌, arith, Some, suc}
use Rattle.std.proofs.Common.{zero, subst}
use Rattle.std.specs.Prelude.{slice_index, slice_get}
use Rattle.std.proofs.lemmas.List.{length-map, get_or-map, get_or-take}
use Rattle.std.proofs.lemmas.List.Elements.{All-get_or, All-nil, All-cons, All-push}
use Rattle.replay_checkpoints.specs.Marks.{MarksView, CheckpointsView, is_far, places_before}
use Rattle.replay_checkpoints.specs.Marks.{states_before}
use Rattle.replay_checkpoints.proofs.NextPlaceLemmas.{states_before_follow}
use Rattle.cave_replay.specs.Replay.{AreStates, IsMarking}

-- what is read at an index is the item there
read_at : {S : Type 0} (xs : List S) (i : ℕ) (x d : S) → slice_get xs i ≡ Some x
    → (i < length xs) × (get_or xs i d ≡ x)
read_at [] i x d read = cc
read_at (y ∷ ys) zero x d read = (omega arith, cc)
read_at (y ∷ ys) (suc i) x d read =
    let more = read_at ys i x d read in (let below = more.0 in omega arith, more.1)

-- the state that is read at an index means what the place there has
pub meaning_at : {S M : Type 0} (meaning : S → M) (is_state : S → Type 0) (by_place : ℕ → M)
    (places : List ℕ) (states : List S) (i : ℕ) (state : S)
    → AreStates meaning is_state by_place places states → slice_get states i ≡ Some state
    → (i < length places) × (meaning state ≡ by_place (slice_index places i)) × is_state state
meaning_at meaning is_state by_place places states i state are read =
    let here = read_at states i state state read in
    let below = here.0 in
    let n = length-map states meaning in
    let m = length-map places by_place in
    let same = ap length are.meanings in
    let within : i < length places = omega arith in
    let e : get_or (map meaning states) i (meaning state) ≡ meaning (get_or states i state) =
    get_or-map meaning states i state (meaning state) below in
    let e' : get_or (map by_place places) i (meaning state) ≡ by_place (get_or places i 0) =
    get_or-map by_place places i 0 (meaning state) within in (
      within,
      ap meaning (sym here.1) ∙ sym e ∙ ap (λ xs. get_or xs i (meaning state)) are.meanings ∙ e',
      subst is_state here.1 (All-get_or is_state states i state below are.made),
    )

-- one read from a list of one
one_read : {S : Type 0} (xs : List S) (x : S) → length xs ≡ 1 → Some x ≡ slice_get xs 0
    → xs ≡ x ∷ []
one_read [] x one read = absurd (omega arith)
one_read (y ∷ []) x one read = cc
one_read (y ∷ (z ∷ zs)) x one read = absurd (omega arith)

get_some : {S : Type 0} (xs : List S) (i : ℕ) → i < length xs → (x : S) × (slice_get xs i ≡ Some x)
get_some [] i below = absurd (omega arith)
get_some (x ∷ xs) zero below = (x, refl)
get_some (x ∷ xs) (suc i) below = get_some xs i (omega arith)

take_get : {S : Type 0} (xs : List S) (n i : ℕ) → i < n → slice_get (take n xs) i ≡ slice_get xs i
take_get [] zero i below = refl
take_get [] (suc n) i below = refl
take_get (x ∷ xs) zero i below = absurd (omega arith)
take_get (x ∷ xs) (suc n) zero below = refl
take_get (x ∷ xs) (suc n) (suc i) below = take_get xs n i (omega arith)

-- marks that begin at a checkpoint have its state, and that of the one before
pub marking_at : {S M : Type 0} (meaning : S → M) (is_state : S → Type 0) (state : ℕ → M)
    (checkpoints : CheckpointsView S) (at : ℕ) (marks : MarksView S)
    → at < length checkpoints.places
    → AreStates meaning is_state state (take (at + 1) checkpoints.places)
    (take (at + 1) checkpoints.states)
    → marks.places ≡ slice_index checkpoints.places (at - 1) ∷ []
    → slice_get checkpoints.states (at - 1) ≡ slice_get marks.states 0
    → length marks.states ≡ length marks.places
    → marks.next ≡ slice_index checkpoints.places at
    → slice_get checkpoints.states at ≡ Some marks.state
    → IsMarking meaning is_state state marks
marking_at meaning is_state state checkpoints at marks among are places states even next
    open_state =
    let some = get_some marks.states 0 (rw (even, places) (omega arith)) in
    let prefix : slice_get (take (at + 1) checkpoints.states) (at - 1) ≡ Some some.0 =
    take_get checkpoints.states (at + 1) (at - 1) (omega arith) ∙ states ∙ some.1 in
    let here : slice_get (take (at + 1) checkpoints.states) at ≡ Some marks.state =
    take_get checkpoints.states (at + 1) at (omega arith) ∙ open_state in
    let first =
    meaning_at meaning is_state state (take (at + 1) checkpoints.places)
    (take (at + 1) checkpoints.states) (at - 1) some.0 are prefix in
    let second =
    meaning_at meaning is_state state (take (at + 1) checkpoints.places)
    (take (at + 1) checkpoints.states) at marks.state are here in
    let one = one_read marks.states some.0 (even ∙ ap length places) (sym some.1) in
    let place : slice_index (take (at + 1) checkpoints.places) (at - 1)
    ≡ slice_index checkpoints.places (at - 1) =
    get_or-take (at + 1) checkpoints.places (at - 1) 0 (omega arith) in
    let place' : slice_index (take (at + 1) checkpoints.places) at
    ≡ slice_index checkpoints.places at =
    get_or-take (at + 1) checkpoints.places at 0 (omega arith) in
    record {
      kept = record {
        meanings = rw (one, places) (ap (λ m. m ∷ []) (first.1 ∙ ap state place));
        made = rw one (All-cons is_state some.0 [] first.2 (All-nil is_state));
      };
      next = second.1 ∙ ap state (place' ∙ sym next);
      next_made = second.2;
    }

-- marks of one place
pub marking_one : {S M : Type 0} (meaning : S → M) (is_state : S → Type 0) (state : ℕ → M)
    (marks : MarksView S) (first : S)
    → marks.places ≡ 0 ∷ [] → marks.states ≡ first ∷ [] → marks.next ≡ 0 → marks.state ≡ first
    → meaning first ≡ state 0 → is_state first
    → IsMarking meaning is_state state marks
marking_one meaning is_state state marks first places states next open_state means made = record {
  kept = record {
    meanings = rw (places, states) (ap (λ m. m ∷ []) means);
    made = rw states (All-cons is_state first [] made (All-nil is_state));
  };
  next = rw (next, open_state) means;
  next_made = rw open_state made;
}

before_made : {S : Type 0} (is_state : S → Type 0) (far : Bool) (states : List S) (state : S)
    → All is_state states → is_state state → All is_state (cond far (states ++ state ∷ []) states)
before_made is_state true states state made one = All-push is_state states state made one
before_made is_state false states state made one = made

-- what is kept of marks before a place
pub states_of_before : {S M : Type 0} (meaning : S → M) (is_state : S → Type 0) (by_place : ℕ → M)
    (marks : MarksView S) (place : ℕ) → IsMarking meaning is_state by_place marks
    → AreStates meaning is_state by_place (places_before marks place) (states_before marks place)
states_of_before meaning is_state by_place marks place marking = record {
  meanings = states_before_follow meaning by_place marks place marking.kept.meanings marking.next;
  made = before_made is_state (is_far marks.every marks.places place) marks.states marks.state
      marking.kept.made marking.next_made;
}

-- one more place
pub marking_more : {S M : Type 0} (meaning : S → M) (is_state : S → Type 0) (by_place : ℕ → M)
    (marks marks' : MarksView S) (place : ℕ) → IsMarking meaning is_state by_place marks
    → marks'.places ≡ places_before marks place → marks'.states ≡ states_before marks place
    → marks'.next ≡ place
    → meaning marks'.state ≡ by_place place → is_state marks'.state
    → IsMarking meaning is_state by_place marks'
marking_more meaning is_state by_place marks marks' place marking places states next means made =
    let before = states_of_before meaning is_state by_place marks place marking in
    record {
      kept = rw (places, states) before;
      next = rw next means;
      next_made = made;
    }
