-- How many lines ticked up to and including each line.
use Rattle.std.proofs.Common.{◌≡◌, ℕ, ◌+◌, ◌<◌, zero, suc, Bool, List, [], ◌∷◌, ◌++◌, length}
use Rattle.std.proofs.Common.{take, drop, count_by, arith, refl, ap, sym, ◌∙◌}
use Rattle.std.specs.List.{splice}
use Rattle.std.specs.Prelude.{slice_index, if◌then◌else◌}
use Rattle.std.proofs.Math.Seq.{take-length}
use Rattle.std.proofs.lemmas.List.{take-append-drop}
use Rattle.std.proofs.lemmas.List.Sums.{sum_by-append, sum_by-cons}
use Rattle.cave_replay.specs.Play.{counts_after}

abbrev pub total : List Bool → ℕ
total ticked = count_by (λ ticks. ticks) ticked

pub total-cons : (t : Bool) (ts : List Bool) → total (t ∷ ts) ≡ (if t then 1 else 0) + total ts
total-cons t ts = sum_by-cons (λ x. if x then 1 else 0) t ts

-- those before a place, and those from there on
pub total-parts : (ts : List Bool) (i : ℕ) → total (take i ts) + total (drop i ts) ≡ total ts
total-parts ts i =
    sym (sum_by-append (λ x. if x then 1 else 0) (take i ts) (drop i ts))
    ∙ ap total (take-append-drop i ts)

-- those of as many lines as there are
pub total-to : (ts : List Bool) (n : ℕ) → n ≡ length ts → total (take n ts) ≡ total ts
total-to ts n all = ap (λ k. total (take k ts)) all ∙ ap total (take-length ts)

-- those of others in the place of a stretch
pub total-splice : (ts new : List Bool) (i j : ℕ)
    → total (splice ts i j new) ≡ total (take i ts) + total new + total (drop j ts)
total-splice ts new i j =
    let f : Bool → ℕ = λ x. if x then 1 else 0 in
    omega (
      arith,
      sum_by-append f (take i ts) (new ++ drop j ts),
      sum_by-append f new (drop j ts),
    )

pub length-counts_after : (count : ℕ) (ts : List Bool) → length (counts_after count ts) ≡ length ts
length-counts_after count [] = refl
length-counts_after count (t ∷ ts) = ap suc (length-counts_after (count + (if t then 1 else 0)) ts)

pub counts_after-at : (count : ℕ) (ts : List Bool) (i : ℕ) → i < length ts
    → slice_index (counts_after count ts) i ≡ count + total (take (i + 1) ts)
counts_after-at count [] i h = absurd (omega arith)
counts_after-at count (t ∷ ts) zero h = omega (arith, total-cons t [])
counts_after-at count (t ∷ ts) (suc i) h =
    let below : i < length ts = omega arith in
    counts_after-at (count + (if t then 1 else 0)) ts i below
    ∙ omega (
      arith,
      total-cons t (take (i + 1) ts),
      (let here : suc i + 1 ≡ suc (i + 1) = omega arith in
          ap (λ k. total (take k (t ∷ ts))) here),
    )
