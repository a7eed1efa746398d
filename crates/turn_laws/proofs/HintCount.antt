-- The count of hints that were taken never falls.
use Rattle.std.proofs.Common.{Bool, List, [], arith, false, suc, true, zero, ℕ, ◌∷◌, ◌≤◌}
use Rattle.std.specs.Prelude.{slice_set}
use Rattle.cave_data.specs.CaveView.{CaveView}
use Rattle.turn_laws.specs.Courses.{HintsNeverFall, taken_hints}
use Rattle.turn_laws.proofs.Lines.{lasting}
use Rattle.turn_laws.proofs.View.{Claim, Hints, Keeps, Line}

-- no fewer hints are taken if one more is
one_taken : (xs : List Bool) (i : ℕ) → taken_hints xs ≤ taken_hints (slice_set xs i true)
one_taken [] i = omega arith
one_taken (true ∷ xs) zero = omega arith
one_taken (false ∷ xs) zero = omega arith
one_taken (true ∷ xs) (suc i) = let less = one_taken xs i in omega (arith, less)
one_taken (false ∷ xs) (suc i) = one_taken xs i

-- at least this many were taken
abbrev AtLeast : ℕ → Claim
AtLeast n v = n ≤ taken_hints v.hints

at_least : (n : ℕ) (cave : CaveView) (l : Line) → Keeps cave l (AtLeast n) (AtLeast n)
at_least n cave l (Hints i) v is h = let less = one_taken v.hints i in omega (arith, h, less)
at_least n cave l _ v is h = h

pub hints_never_fall : HintsNeverFall
hints_never_fall cave s line =
    let n = taken_hints s.hints.is_taken in
    lasting (AtLeast n) (at_least n) cave s line (omega arith)
