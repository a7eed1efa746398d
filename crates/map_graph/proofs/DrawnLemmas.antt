-- The places that are drawn are some of a map's.
use Rattle.std.proofs.Common.{ℕ, zero, suc, ◌≤◌, All, List, Option, None, Some, length, arith}
use Rattle.std.specs.List.{filter}
use Rattle.std.specs.Prelude.{Bool, ◌==◌, ◌||◌, not}
use Rattle.std.proofs.lemmas.List.Elements.{All-filter}
use Rattle.std.proofs.lemmas.List.Sums.{count_by-le-length, length-filter}
use Rattle.cave_data.specs.CaveView.{CaveView}
use Rattle.map_graph.specs.Parts.{drawn_places}
use Rattle.map_ways.specs.Regions.{is_way_on, places_around, places_within}
use Rattle.map_graph.specs.Stops.{Stops, is_visited}
use Rattle.map_graph.specs.declared.parts.DrawnPart.{DrawnPart}
use Rattle.map_ways.specs.declared.regions.Region.{Region}

module _ (P : ℕ → Type 0) (cave : CaveView) (mapped : List ℕ) (all : All P mapped) where
  within_all : (from ways : ℕ) → All P (places_within cave mapped from ways)
  within_all from zero = All-filter (λ place. place == from) P mapped all
  within_all from (suc ways) =
      All-filter (is_way_on cave (places_within cave mapped from ways)) P mapped all

  around_all : (around : Option Region) → All P (places_around cave mapped around)
  around_all None = all
  around_all (Some around) = within_all around.place around.ways

  pub drawn_within : (stops : Stops) (part : DrawnPart)
      → All P (drawn_places cave stops part mapped)
  unfolding drawn_places
  drawn_within stops part =
      All-filter (λ place. not part.seen || is_visited cave stops place) P
      (places_around cave mapped part.around) (around_all part.around)

few : (test : ℕ → Bool) (places : List ℕ) → length (filter test places) ≤ length places
few test places =
    let counted = length-filter test places in
    let some = count_by-le-length test places in
    omega arith

module _ (cave : CaveView) (mapped : List ℕ) where
  within_few : (from ways : ℕ) → length (places_within cave mapped from ways) ≤ length mapped
  within_few from zero = few (λ place. place == from) mapped
  within_few from (suc ways) = few (is_way_on cave (places_within cave mapped from ways)) mapped

  -- the places around one are no more than those of a map
  pub around_few : (around : Option Region)
      → length (places_around cave mapped around) ≤ length mapped
  around_few None = omega arith
  around_few (Some around) = within_few around.place around.ways
