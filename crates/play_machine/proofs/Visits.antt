-- What remains of visits without a last block of unvisited places.
use Rattle.std.proofs.Common.{◌≡◌, ℕ, ◌+◌, ◌-◌, ◌≤◌, List, ◌++◌, length, take, drop, ap, sym, ◌∙◌}
use Rattle.std.proofs.Common.{arith}
use Rattle.std.specs.Prelude.{replicate}
use Rattle.std.proofs.lemmas.List.{replicate-append-replicate, append_assoc, take-append-drop}
use Rattle.play_machine.specs.Machine.{visits_from}

-- the length alone says that this many zeros follow
pub zeros_joined : (first : List ℕ) (k m : ℕ)
    → (first ++ replicate k 0) ++ replicate m 0 ≡ first ++ replicate (k + m) 0
zeros_joined first k m =
    append_assoc first (replicate k 0) (replicate m 0)
    ∙ ap (λ zeros. first ++ zeros) (replicate-append-replicate k m 0)

-- the visits before a last block of zeros say as much as those with it
pub without_block : (visits first before block : List ℕ) (k : ℕ)
    → before ≡ take (length first - k) first → block ≡ drop (length first - k) first
    → length before + k ≡ length first → block ≡ replicate k 0 → length first ≤ length visits
    → visits_from first (length visits) ≡ visits → visits_from before (length visits) ≡ visits
without_block visits first before block k front back cut zero few all =
    let whole : before ++ replicate k 0 ≡ first =
    rw (front, ← zero, back) (take-append-drop (length first - k) first) in
    let count : length visits - length before ≡ k + (length visits - length first) = omega arith in
    rw count (sym (zeros_joined before k (length visits - length first))
    ∙ ap (λ some. some ++ replicate (length visits - length first) 0) whole ∙ all)
