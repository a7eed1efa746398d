-- What lists have at each number.
use Rattle.std.proofs.Common.{◌≡◌, ℕ, ◌+◌, ◌-◌, ◌<◌, false, List, sym, ◌∙◌, arith, length, subst}
use Rattle.std.proofs.Common.{get_or}
use Rattle.std.specs.Prelude.{◌==◌, slice_index_or}
use Rattle.std.proofs.lemmas.Bool.Decides.{nat_tests}
use Rattle.std.proofs.lemmas.List.{ext_get_or}
use Rattle.play_state_text.specs.Within.{IsUpTo}

pub unequal : (a b : ℕ) → a < b → a == b ≡ false
unequal a b h = grind (arith, nat_tests)

pub not_zero : (n : ℕ) → 0 < n → n == 0 ≡ false
not_zero n h = grind (arith, nat_tests)

pub listed : {X : Type 0} (d : X) (xs ys : List X) (last : ℕ) → length xs ≡ last → length ys ≡ last
    → ((n : ℕ) → IsUpTo last n → slice_index_or xs (n - 1) d ≡ slice_index_or ys (n - 1) d)
    → xs ≡ ys
listed d xs ys last hx hy each =
    ext_get_or d xs ys (hx ∙ sym hy)
    (λ i below.
    let next : i + 1 - 1 ≡ i = omega arith in
    subst (λ k. get_or xs k d ≡ get_or ys k d) next
    (each (i + 1) (omega arith, omega (arith, below, hx))))
