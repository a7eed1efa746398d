-- For those who keep the states of a play: through each change, the kept states are those at the
-- kept places.
use Rattle.std.proofs.Common.{◌≡◌, ℕ, ◌+◌, ◌-◌, ◌<◌, ◌≤◌, suc, Bool, true, false, List, [], ◌∷◌}
use Rattle.std.proofs.Common.{◌++◌, map, length, take, drop, arith, refl, ap, sym, ◌∙◌}
use Rattle.std.specs.Prelude.{slice_index, if◌then◌else◌}
use Rattle.std.proofs.lemmas.List.{map-append, map_push, take-map, drop-map, length-take-le}
use Rattle.std.proofs.lemmas.List.{length-drop, get_or-take, get_or-drop}
use Rattle.replay_checkpoints.specs.Marks.{after_shift, MarksView, is_far, places_before, states_before}

module _ {S T : Type 0} (meaning : S → T) (at : ℕ → T) where
  class_before : (far : Bool) (places : List ℕ) (states : List S) (next : ℕ) (state : S)
      → map meaning states ≡ map at places → meaning state ≡ at next
      → map meaning (if far then states ++ state ∷ [] else states)
      ≡ map at (if far then places ++ next ∷ [] else places)
  class_before true places states next state kept last = map_push meaning states state
      ∙ ap (λ list. list ++ meaning state ∷ []) kept
      ∙ ap (λ value. map at places ++ value ∷ []) last ∙ sym (map_push at places next)
  class_before false places states next state kept last = kept

  -- after `advance`, and what `meet` keeps of the marks
  pub states_before_follow : (marks : MarksView S) (place : ℕ)
      → map meaning marks.states ≡ map at marks.places → meaning marks.state ≡ at marks.next
      → map meaning (states_before marks place) ≡ map at (places_before marks place)
  states_before_follow marks place kept last =
      class_before (is_far marks.every marks.places place) marks.places marks.states marks.next
      marks.state kept last

map_same : {T : Type 0} (f g : ℕ → T) (xs : List ℕ)
    → ((i : ℕ) → i < length xs → f (slice_index xs i) ≡ g (slice_index xs i)) → map f xs ≡ map g xs
map_same f g [] h = refl
map_same f g (x ∷ xs) h = ap (λ y. y ∷ map f xs) (h 0 (omega arith))
    ∙ ap (λ ys. g x ∷ ys) (map_same f g xs (λ i lt. h (suc i) (omega arith)))

map_moved : {T : Type 0} (f g : ℕ → T) (move : ℕ → ℕ) (xs : List ℕ)
    → ((i : ℕ) → i < length xs → f (slice_index xs i) ≡ g (move (slice_index xs i)))
    → map f xs ≡ map g (map move xs)
map_moved f g move [] h = refl
map_moved f g move (x ∷ xs) h = ap (λ y. y ∷ map f xs) (h 0 (omega arith))
    ∙ ap (λ ys. g (move x) ∷ ys) (map_moved f g move xs (λ i lt. h (suc i) (omega arith)))

-- after `meet` and `replace_from`: `was` gives the meanings by the old places, `is` by the new ones
pub states_joined_follow : {S T : Type 0} (meaning : S → T) (was is : ℕ → T) (places : List ℕ)
    (states : List S) (head rest old new : ℕ) (kept : List ℕ) (kept_states : List S)
    → head ≤ length places → map meaning states ≡ map was places
    → ((i : ℕ) → i < head → was (slice_index places i) ≡ is (slice_index places i))
    → map meaning kept_states ≡ map is kept
    → ((i : ℕ) → rest ≤ i → i < length places
    → was (slice_index places i) ≡ is (slice_index places i - old + new))
    → map meaning (take head states ++ (kept_states ++ drop rest states))
    ≡ map is (take head places ++ (kept ++ after_shift places rest old new))
states_joined_follow meaning was is places states head rest old new kept kept_states within follow
    front middle back =
    let front_len = length-take-le head places within in
    let front_is : map meaning (take head states) ≡ map is (take head places) =
    sym (take-map meaning head states) ∙ ap (take head) follow ∙ take-map was head places
    ∙ map_same was is (take head places)
    (λ i h. let here : slice_index (take head places) i ≡ slice_index places i =
    get_or-take head places i 0 (omega arith) in rw here (front i (omega arith))) in
    let back_is : map meaning (drop rest states) ≡ map is (after_shift places rest old new) =
    sym (drop-map meaning rest states) ∙ ap (drop rest) follow ∙ drop-map was rest places
    ∙ map_moved was is (λ place. place - old + new) (drop rest places)
    (λ i h. let here : slice_index (drop rest places) i ≡ slice_index places (rest + i) =
    get_or-drop rest places i 0 in
    rw here (back (rest + i) (omega arith) (omega (arith, length-drop rest places)))) in
    map-append meaning (take head states) (kept_states ++ drop rest states)
    ∙ ap (λ list. list ++ map meaning (kept_states ++ drop rest states)) front_is
    ∙ ap (λ list. map is (take head places) ++ list)
    (map-append meaning kept_states (drop rest states)
    ∙ ap (λ list. list ++ map meaning (drop rest states)) middle
    ∙ ap (λ list. map is kept ++ list) back_is
    ∙ sym (map-append is kept (after_shift places rest old new)))
    ∙ sym (map-append is (take head places) (kept ++ after_shift places rest old new))
