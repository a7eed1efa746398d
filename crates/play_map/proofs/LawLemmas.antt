-- What the order of logs says about maps, and that there is at most one.
use Rattle.std.proofs.Common.{◌≡◌, ℕ, ◌+◌, Bool, false, List, [], ◌∷◌, length, refl, sym, ap, ◌∙◌}
use Rattle.std.specs.Prelude.{◌||◌}
use Rattle.std.specs.List.{filter, flat_map, list_any, sum_by}
use Rattle.std.specs.List.Sorted.{IsPermutation}
use Rattle.std.proofs.lemmas.List.{length-append}
use Rattle.std.proofs.lemmas.List.Elements.{filter-append}
use Rattle.std.proofs.lemmas.List.Sums.{sum_by-cons}
use Rattle.std.proofs.lemmas.List.Sorted.{length_permutation, list_any-IsPermutation}
use Rattle.std.proofs.lemmas.List.Sorted.{sum_by-IsPermutation}
use Rattle.play_machine.proofs.Lists.{any_flat}
use Rattle.cave_data.specs.CaveView.{CaveView}
use Rattle.cave_data.proofs.ReadLemmas.{same_cave}
use Rattle.play_map.specs.Parts.{drawn_part}
use Rattle.play_map.specs.Plays.{OneMap, OrderOfLogsIsNothing, map_text, stops_in_all, stops_in_log}
use Rattle.map_graph.specs.Map.{map_of_places}
use Rattle.map_graph.specs.Stops.{all_stops, arrives_at, goes_by, is_in}
use Rattle.map_graph.specs.declared.stops.Stop.{Stop}

-- a test that elements of lists pass, counted list by list
count_flat : {X A : Type 0} (p : A → Bool) (f : X → List A) (xs : List X)
    → length (filter p (flat_map f xs)) ≡ sum_by (λ x. length (filter p (f x))) xs
count_flat p f [] = refl
count_flat p f (x ∷ xs) =
    ap length (filter-append p (f x) (flat_map f xs))
    ∙ length-append (filter p (f x)) (filter p (flat_map f xs))
    ∙ ap (λ n. length (filter p (f x)) + n) (count_flat p f xs)
    ∙ sym (sum_by-cons (λ x. length (filter p (f x))) x xs)

-- a test that a stop of some log passes, with the logs in any order
any_in_order : (cave : CaveView) (seed : ℕ) (test : Stop → Bool) (logs others : List (List ℕ))
    → IsPermutation logs others
    → list_any test (stops_in_all cave seed others) ≡ list_any test (stops_in_all cave seed logs)
any_in_order cave seed test logs others shuffled =
    any_flat test (stops_in_log cave seed) others
    ∙ sym (list_any-IsPermutation (λ log. list_any test (stops_in_log cave seed log)) logs others
    shuffled)
    ∙ sym (any_flat test (stops_in_log cave seed) logs)

-- how many stops of logs pass a test, with the logs in any order
count_in_order : (cave : CaveView) (seed : ℕ) (test : Stop → Bool) (logs others : List (List ℕ))
    → IsPermutation logs others
    → length (filter test (stops_in_all cave seed others))
    ≡ length (filter test (stops_in_all cave seed logs))
count_in_order cave seed test logs others shuffled =
    count_flat test (stops_in_log cave seed) others
    ∙ sum_by-IsPermutation (λ log. length (filter test (stops_in_log cave seed log))) logs others
    shuffled
    ∙ sym (count_flat test (stops_in_log cave seed) logs)

-- the stops say the same together, with the logs in any order
stops_in_order : (cave : CaveView) (seed : ℕ) (logs others : List (List ℕ))
    → IsPermutation logs others
    → all_stops (stops_in_all cave seed others) ≡ all_stops (stops_in_all cave seed logs)
stops_in_order cave seed logs others shuffled = λ i. record {
  was_at = λ place. false || any_in_order cave seed (is_in place) logs others shuffled i;
  went_by = λ place row. false || any_in_order cave seed (goes_by place row) logs others shuffled i;
  visits = λ place. 0 + count_in_order cave seed (arrives_at place) logs others shuffled i;
}

pub order_of_logs_is_nothing : OrderOfLogsIsNothing
order_of_logs_is_nothing cave seed part logs others shuffled =
    λ i. map_of_places cave (stops_in_order cave seed logs others shuffled i) (drawn_part part)
    (length_permutation logs others shuffled i)

pub one_map : OneMap
one_map database bindings logs seed part =
    λ one other first second.
    let (cave, reads, is) = first in
    let (kept, rereads, same) = second in
    let caves = same_cave database bindings kept cave rereads reads in
    is ∙ ap (λ c. map_text c seed part logs) caves ∙ sym same
