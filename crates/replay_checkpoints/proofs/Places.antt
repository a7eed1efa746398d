-- Ascending places: what a search among them finds.
use Rattle.std.proofs.Common.{◌≡◌, ℕ, ◌+◌, ◌<◌, ◌≤◌, false, leb, List, length, get_or, arith}
use Rattle.std.proofs.Common.{⊎_elim}
use borrow.Author.Tests.{leb-false}
use Rattle.std.specs.List.{AllWithin}
use Rattle.std.proofs.lemmas.Bool.{cases_lt}
use Rattle.std.specs.Prelude.{slice_index}
use Rattle.std.specs.List.Sorted.{IsStrictlyIncreasing, IsNonDecreasingBy}
use Rattle.std.proofs.lemmas.List.{get_or_default}
use Rattle.std.proofs.lemmas.List.Sorted.{IsNonDecreasingBy-from_all_adjacent}

pub non_decreasing : (xs : List ℕ) → IsStrictlyIncreasing xs → IsNonDecreasingBy (λ x. x) xs
non_decreasing xs up = IsNonDecreasingBy-from_all_adjacent (λ x. x) xs (λ k d h.
    let low : get_or xs k d ≡ get_or xs k 0 = get_or_default xs k d 0 (omega arith) in
    let high : get_or xs (k + 1) d ≡ get_or xs (k + 1) 0 = get_or_default xs (k + 1) d 0 h in
    omega (arith, up k h))

-- if the first place isn't past the limit, a search for the limit passes it
pub found_one : (xs : List ℕ) (limit found : ℕ) → 0 < length xs → slice_index xs 0 ≤ limit
    → AllWithin (λ y. leb y limit ≡ false) xs found (length xs) → 0 < found
found_one xs limit found some begun past =
    ⊎_elim (λ h. h)
    (λ none. absurd (let late : limit < slice_index xs 0 =
    leb-false _ _ (past 0 0 (omega arith) some) in omega arith)) (cases_lt 0 found)
