-- A row that a motion tries and that applies is one of a way, if it leads to a place.
use Rattle.std.proofs.Common.{◌≡◌, ℕ, zero, suc, true, List, [], ◌∷◌, ◌++◌, sym, ap, ◌∙◌}
use Rattle.std.proofs.Common.{ap₂, Some, subst, take, append_assoc, append-nil, arith}
use Rattle.std.specs.Prelude.{◌&&◌, is_some}
use Rattle.std.specs.List.{slice_get}
use Rattle.std.proofs.lemmas.Bool.{false≢true}
use Rattle.cave_data.specs.CaveView.{ways_from}
use Rattle.data_rows.specs.Rows.{Going}
use Rattle.check_tables.specs.Reach.{may_be_taken}
use Rattle.check_tables.proofs.Journeys.{tried_may_be_taken}
use Rattle.map_ways.specs.Laws.{AppliedRowsAreWays}
use Rattle.map_ways.specs.Ways.{ends_at, lead_to}
use Rattle.map_ways.proofs.Bools.{both_and, or_left, or_right}

row_same : {a b : Going} → Some a ≡ Some b → a ≡ b
row_same same = grind (arith, same)

leads : (to : ℕ) (before ways : List Going) (index : ℕ) (row : Going)
    → slice_get ways index ≡ Some row → ends_at to row ≡ true
    → may_be_taken (before ++ take index ways) row ≡ true → lead_to to before ways ≡ true
leads to before [] index row is ends taken = absurd (false≢true (ap is_some is))
leads to before (first ∷ ways) zero row is ends taken =
    or_left _ _ (ap₂ (λ (b : List Going) r. ends_at to r && may_be_taken b r)
    (sym (append-nil before)) (row_same is) ∙ both_and _ _ ends taken)
leads to before (first ∷ ways) (suc index) row is ends taken =
    or_right _ _ (leads to (before ++ first ∷ []) ways index row is ends
    (subst (λ b. may_be_taken b row ≡ true)
    (sym (append_assoc before (first ∷ []) (take index ways))) taken))

pub applied_rows_are_ways : AppliedRowsAreWays
applied_rows_are_ways cave emerald motion from to index s row tried there ends =
    leads to [] (ways_from cave from) index row there ends
    (tried_may_be_taken cave emerald motion s from index true row tried there)
