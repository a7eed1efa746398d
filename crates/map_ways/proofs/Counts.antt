-- How often a number is among those of a range that pass a test.
use Rattle.std.proofs.Common.{◌≡◌, ◌≢◌, ℕ, zero, suc, ◌+◌, ◌<◌, ◌≤◌, Bool, true, false, cond, List}
use Rattle.std.proofs.Common.{◌∷◌, length, refl, ap, subst, ◌∙◌, inl, inr, arith}
use Rattle.std.specs.Prelude.{◌==◌}
use Rattle.std.specs.List.{filter, range_with_len}
use Rattle.std.proofs.lemmas.Bool.{cases_eq, eq-eqb, ne_eqb}
use Rattle.map_ways.specs.Laws.{count_if, count_of}

other_first : (number first : ℕ) (rest : List ℕ) (passes : Bool) → first ≢ number
    → count_of number (cond passes (first ∷ rest) rest) ≡ count_of number rest
other_first number first rest true other =
    let found = filter (λ n. n == number) rest in
    ap (λ is. length (cond is (first ∷ found) found)) (ne_eqb first number other)
other_first number first rest false other = refl

same_first : (number : ℕ) (rest : List ℕ) (passes : Bool) → count_of number rest ≡ 0
    → count_of number (cond passes (number ∷ rest) rest) ≡ count_if passes
same_first number rest true none =
    let found = filter (λ n. n == number) rest in
    ap (λ is. length (cond is (number ∷ found) found)) (eq-eqb number number refl)
    ∙ ap (λ n. suc n) none
same_first number rest false none = none

none_before : (test : ℕ → Bool) (first count number : ℕ) → number < first
    → count_of number (filter test (range_with_len first count)) ≡ 0
none_before test first zero number low = refl
none_before test first (suc count) number low =
    other_first number first (filter test (range_with_len (first + 1) count)) (test first)
    (λ e. omega (arith, e, low))
    ∙ none_before test (first + 1) count number (omega (arith, low))

pub one_in_range : (test : ℕ → Bool) (first count number : ℕ) → first ≤ number
    → number < first + count
    → count_of number (filter test (range_with_len first count)) ≡ count_if (test number)
one_in_range test first zero number low high = absurd (omega arith)
one_in_range test first (suc count) number low high =
    let rest = filter test (range_with_len (first + 1) count) in
    elim (cases_eq first number) [
      | inl same ↦ subst
          (λ n. count_of n (cond (test first) (first ∷ rest) rest) ≡ count_if (test n)) same
          (same_first first rest (test first)
          (none_before test (first + 1) count first (omega arith)))
      | inr other ↦ other_first number first rest (test first) other
          ∙ one_in_range test (first + 1) count number (omega (arith, other)) (omega arith)
    ]
