-- Each place has one node, each way one edge, and each end of a way is on the map.
use Rattle.std.proofs.Common.{◌≡◌, ℕ, zero, suc, ◌+◌, ◌≤◌, ◌<◌, Bool, true, false, refl, ap}
use Rattle.std.proofs.Common.{ap₂, ◌∙◌, inl, inr, arith}
use Rattle.std.specs.Prelude.{◌==◌, ◌&&◌, ◌||◌, nat_le, is_some, if◌then◌else◌}
use Rattle.std.specs.FinMap as map
use Rattle.std.specs.List.{list_any, range_with_len}
use Rattle.std.proofs.lemmas.Bool.{cases_eq, eqb-false, eqb-true, le-leb, leb-false, leb-true}
use Rattle.cave_data.specs.CaveView.{CaveView}
use Rattle.base_lines.specs.Numbers.{LAST_PLACE}
use Rattle.map_ways.specs.Laws.{EachPlaceHasOneNode, EachWayHasOneEdge, EndsAreNodes, IsPlaceNumber}
use Rattle.map_ways.specs.Laws.{count_if, count_of}
use Rattle.map_ways.specs.Ways.{are_joined, begins_edge, ends_of_edges, has_way, is_mapped, is_way}
use Rattle.map_ways.specs.Ways.{mapped_places, place_numbers}
use Rattle.map_ways.proofs.Counts.{one_in_range}

or_swapped : (there back : Bool) → (there || back) ≡ (back || there)
or_swapped true true = refl
or_swapped true false = refl
or_swapped false true = refl
or_swapped false false = refl

-- exactly one of the two places is the lower one; there is only one if they are the same
one_lower : (from to : ℕ) (same : Bool) → (from == to) ≡ same
    → count_if (nat_le from to) + (if same then 0 else count_if (nat_le to from)) ≡ 1
one_lower from to true is =
    ap (λ low. count_if low + 0) (le-leb from to (omega (arith, eqb-true from to is)))
one_lower from to false is = up_or_down (nat_le from to) (nat_le to from) refl refl
  where
    up_or_down : (up down : Bool) → nat_le from to ≡ up → nat_le to from ≡ down
        → count_if up + count_if down ≡ 1
    up_or_down true true rises falls =
        let low = leb-true from to rises in
        let high = leb-true to from falls in
        absurd (eqb-false from to is (omega (arith, low, high)))
    up_or_down true false rises falls = refl
    up_or_down false true rises falls = refl
    up_or_down false false rises falls =
        let low = leb-false from to rises in
        let high = leb-false to from falls in
        absurd (omega (arith, low, high))

-- the edge is that of the lower place, if there is one
edges_counted : (same up down joined : Bool)
    → count_if up + (if same then 0 else count_if down) ≡ 1
    → count_if (up && joined) + (if same then 0 else count_if (down && joined)) ≡ count_if joined
edges_counted true true down true one = refl
edges_counted true true down false one = refl
edges_counted true false down joined one = absurd (omega (arith, one))
edges_counted false true true joined one = absurd (omega (arith, one))
edges_counted false true false true one = refl
edges_counted false true false false one = refl
edges_counted false false true true one = refl
edges_counted false false true false one = refl
edges_counted false false false joined one = absurd (omega (arith, one))

module _ (cave : CaveView) where
  edge_counted : (from to : ℕ) → IsPlaceNumber to
      → count_of to (ends_of_edges cave from) ≡ count_if (begins_edge cave from to)
  unfolding ends_of_edges place_numbers
  edge_counted from to number =
      one_in_range (begins_edge cave from) 1 LAST_PLACE to (omega (arith, number.0))
      (omega (arith, number.1))

  node_counted : (place : ℕ) → IsPlaceNumber place
      → count_of place (mapped_places cave) ≡ count_if (is_mapped cave place)
  unfolding mapped_places place_numbers
  node_counted place number =
      one_in_range (is_mapped cave) 1 LAST_PLACE place (omega (arith, number.0))
      (omega (arith, number.1))

pub each_place_has_one_node : EachPlaceHasOneNode
each_place_has_one_node cave = node_counted cave

pub each_way_has_one_edge : EachWayHasOneEdge
each_way_has_one_edge cave from to begins ends =
    let joined = are_joined cave from to in
    let back = or_swapped (is_way cave to from) (is_way cave from to) in
    ap₂ (λ there other. there + (if from == to then 0 else other)) (edge_counted cave from to ends)
    (edge_counted cave to from begins ∙ ap (λ j. count_if (nat_le to from && j)) back)
    ∙ edges_counted (from == to) (nat_le from to) (nat_le to from) joined
    (one_lower from to (from == to) refl)

or_right : (a b : Bool) → b ≡ true → (a || b) ≡ true
or_right true b is = refl
or_right false b is = is

or_left : (a b : Bool) → a ≡ true → (a || b) ≡ true
or_left a b is = ap (λ c. c || b) is

-- a number of a range passes a test
any_of_range : (test : ℕ → Bool) (first count n : ℕ) → first ≤ n → n < first + count
    → test n ≡ true → list_any test (range_with_len first count) ≡ true
any_of_range test first zero n low high passes = absurd (omega arith)
any_of_range test first (suc count) n low high passes =
    elim (cases_eq first n) [
      | inl same ↦ or_left (test first) (list_any test (range_with_len (first + 1) count))
          (ap test same ∙ passes)
      | inr other ↦ or_right (test first) (list_any test (range_with_len (first + 1) count))
          (any_of_range test (first + 1) count n (omega (arith, other)) (omega arith) passes)
    ]

module _ (cave : CaveView) where
  mapped_by_way : (place other : ℕ) → IsPlaceNumber other
      → (is_way cave place other || is_way cave other place) ≡ true
      → is_mapped cave place ≡ true
  unfolding place_numbers
  mapped_by_way place other number has =
      or_right (is_some (map.get cave.long place) || is_some (map.get cave.short place))
      (has_way cave place)
      (any_of_range (are_joined cave place) 1 LAST_PLACE other
      (omega (arith, number.0)) (omega (arith, number.1)) has)

pub ends_are_nodes : EndsAreNodes
ends_are_nodes cave from to begins ends leads = (
  mapped_by_way cave from to ends (or_left (is_way cave from to) (is_way cave to from) leads),
  mapped_by_way cave to from begins
      (or_right (is_way cave to from) (is_way cave from to) leads),
)
