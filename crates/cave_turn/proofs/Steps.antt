-- One more object falls.
use Rattle.std.proofs.Common.{◌≡◌, ℕ, zero, suc, ◌-◌, ◌<◌, refl, sym, arith}
use Rattle.turn_scene.specs.Effects.{for_each_down_from}

-- the first of the numbers, counting down
first-down : {S : Type 0} (n : ℕ) (what : ℕ → S → S) (s : S) → 0 < n
    → for_each_down_from n what s ≡ for_each_down_from (n - 1) what (what n s)
unfolding for_each_down_from
first-down zero what s some = absurd (omega (arith, some))
first-down (suc n) what s some = let less : suc n - 1 ≡ n = omega arith in rw less refl

-- so doing it for the first number, and then for those below, is doing it for all
pub one_less-down : {S : Type 0} (n m : ℕ) (what : ℕ → S → S) (s t : S) → 0 < n → m ≡ n - 1
    → t ≡ what n s → for_each_down_from m what t ≡ for_each_down_from n what s
one_less-down n m what s t some next is = rw (next, is) (sym (first-down n what s some))

-- and if there are none, nothing is done
pub none-down : {S : Type 0} (what : ℕ → S → S) (s : S) → for_each_down_from 0 what s ≡ s
unfolding for_each_down_from
none-down what s = refl
