-- What stops say together, stop by stop.
use Rattle.std.proofs.Common.{◌≡◌, ℕ, ◌+◌, Bool, true, false, List, [], ◌∷◌, ◌++◌, length, refl, sym}
use Rattle.std.proofs.Common.{ap, ◌∙◌, arith, cond, subst}
use Rattle.std.specs.Prelude.{◌||◌, ◌&&◌, ◌==◌, not, if◌then◌else◌}
use Rattle.std.specs.List.{filter, list_any}
use Rattle.std.proofs.Math.Bool.{or_assoc}
use Rattle.std.proofs.Math.Nat.{add_assoc}
use Rattle.std.proofs.lemmas.List.{length-append}
use Rattle.std.proofs.lemmas.List.Elements.{filter-append}
use Rattle.std.proofs.lemmas.List.Folds.{list_any-append}
use Rattle.map_graph.specs.declared.stops.Stop.{Stop}
use Rattle.map_graph.specs.declared.stops.Stop.TheVariants.{InState, OnWay}
use Rattle.map_graph.specs.Stops.{Stops, arrives_at, goes_by, is_in, with_stops}

any_in_turn : (test : Stop → Bool) (old : Bool) (first later : List Stop)
    → ((old || list_any test first) || list_any test later) ≡ (old || list_any test (first ++ later))
any_in_turn test old first later =
    or_assoc old (list_any test first) (list_any test later)
    ∙ ap (λ b. old || b) (sym (list_any-append test first later))

count_in_turn : (test : Stop → Bool) (old : ℕ) (first later : List Stop)
    → old + length (filter test first) + length (filter test later)
    ≡ old + length (filter test (first ++ later))
count_in_turn test old first later =
    add_assoc old (length (filter test first)) (length (filter test later))
    ∙ ap (λ n. old + n) (sym (ap length (filter-append test first later)
    ∙ length-append (filter test first) (filter test later)))

-- stops, and then others, are all of them
pub stops_in_turn : (old : Stops) (first later : List Stop)
    → with_stops (with_stops old first) later ≡ with_stops old (first ++ later)
stops_in_turn old first later = λ i. record {
  was_at = λ place. any_in_turn (is_in place) (old.was_at place) first later i;
  went_by = λ place row. any_in_turn (goes_by place row) (old.went_by place row) first later i;
  visits = λ place. count_in_turn (arrives_at place) (old.visits place) first later i;
}

or_none : (p : Bool) → p ≡ (p || false)
or_none true = refl
or_none false = refl

add_none : (n : ℕ) → n ≡ n + 0
add_none n = omega arith

-- no stops are added
pub without_more : (old : Stops) → with_stops old [] ≡ old
without_more old = λ i. record {
  was_at = λ place. sym (or_none (old.was_at place)) i;
  went_by = λ place row. sym (or_none (old.went_by place row)) i;
  visits = λ place. sym (add_none (old.visits place)) i;
}

-- a mark is made, or was there before
noted : (p old : Bool) → ((p || false) || old) ≡ (old || (p || false))
noted true true = refl
noted true false = refl
noted false true = refl
noted false false = refl

or_neither : (p : Bool) → p ≡ (p || (false || false))
or_neither true = refl
or_neither false = refl

-- the player is in a state
pub noted_state : (old new : Stops) (before here : ℕ)
    → ((place : ℕ) → new.was_at place ≡ (((place == here) || false) || old.was_at place))
    → ((place row : ℕ) → new.went_by place row ≡ old.went_by place row)
    → ((place : ℕ) → new.visits place
    ≡ old.visits place + length (filter (arrives_at place) (InState before here ∷ [])))
    → new ≡ with_stops old (InState before here ∷ [])
noted_state old new before here at by often = λ i. record {
  was_at = λ place. (at place ∙ noted (place == here) (old.was_at place)) i;
  went_by = λ place row. (by place row ∙ or_neither (old.went_by place row)) i;
  visits = λ place. often place i;
}

-- the player goes on by a row
pub noted_way : (old new : Stops) (from index : ℕ)
    → ((place : ℕ) → new.was_at place ≡ old.was_at place)
    → ((place row : ℕ) → new.went_by place row
    ≡ (((place == from && row == index) || false) || old.went_by place row))
    → ((place : ℕ) → new.visits place ≡ old.visits place)
    → new ≡ with_stops old (OnWay from index ∷ [])
noted_way old new from index at by often = λ i. record {
  was_at = λ place. (at place ∙ or_neither (old.was_at place)) i;
  went_by = λ place row. (by place row
      ∙ noted (place == from && row == index) (old.went_by place row)) i;
  visits = λ place. (often place ∙ add_none (old.visits place)) i;
}

no_arrival : (p : Bool) (stop : Stop) → length (cond (p && not true) (stop ∷ []) []) ≡ 0
no_arrival true stop = refl
no_arrival false stop = refl

one_arrival : (p : Bool) (stop : Stop)
    → length (cond (p && not false) (stop ∷ []) []) ≡ (if p then 1 else 0)
one_arrival true stop = refl
one_arrival false stop = refl

-- the player was there before, so no visit is counted
pub stays : (place before here count : ℕ) → (before == here) ≡ true
    → count ≡ count + length (filter (arrives_at place) (InState before here ∷ []))
stays place before here count same =
    let stop = InState before here in
    add_none count ∙ ap (λ n. count + n)
    (sym (subst (λ b. length (cond (place == here && not b) (stop ∷ []) []) ≡ 0) (sym same)
    (no_arrival (place == here) stop)))

-- the player comes, so a visit of the place is counted
pub comes : (place before here old new : ℕ) → (before == here) ≡ false
    → new ≡ old + (if place == here then 1 else 0)
    → new ≡ old + length (filter (arrives_at place) (InState before here ∷ []))
comes place before here old new differs counted =
    let stop = InState before here in
    counted ∙ ap (λ n. old + n)
    (sym (subst (λ b. length (cond (place == here && not b) (stop ∷ []) [])
    ≡ (if place == here then 1 else 0)) (sym differs) (one_arrival (place == here) stop)))
