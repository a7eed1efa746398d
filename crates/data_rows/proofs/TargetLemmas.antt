-- The objects and places of targets have possible numbers.
use Rattle.std.proofs.Common.{◌≡◌, ℕ, ◌-◌, ◌/◌, ◌%◌, Bool, true, false, cond, leb, refl, arith}
use Rattle.std.proofs.lemmas.Bool.{leb-true}
use Rattle.data_rows.specs.declared.targets.Condition.TheVariants.{Always, Chance, NotForDwarves}
use Rattle.data_rows.specs.declared.targets.Condition.TheVariants.{InHands, AtHand, OtherProp}
use Rattle.data_rows.specs.declared.targets.Destination.TheVariants.{Place, Special, NoWay, Message}
use Rattle.data_rows.specs.declared.targets.Destination.TheVariants.{PutsEmeraldDown}
use Rattle.data_rows.specs.declared.targets.Special.TheVariants.{Squeeze, Bridge}
use Rattle.data_rows.specs.Targets.{condition_of, destination_of, IsConditionWithin, EndsWithin}

pub condition_within : (target : ℕ) → IsConditionWithin (condition_of target)
unfolding condition_of
condition_within target =
    at (target / 1000) _ _ _ (leb (target / 1000) 200) (leb (target / 1000) 300) refl refl
  where
    at : (m : ℕ) (always never chance low high : Bool) → leb m 200 ≡ low → leb m 300 ≡ high
        → IsConditionWithin (cond always Always (cond never NotForDwarves (cond chance (Chance m)
        (cond low (InHands (m - 100)) (cond high (AtHand (m - 200))
        (OtherProp (m % 100) (m / 100 - 3)))))))
    at m true never chance low high is_low is_high = tt
    at m false true chance low high is_low is_high = tt
    at m false false true low high is_low is_high = tt
    at m false false false true high is_low is_high =
        let within = leb-true m 200 is_low in omega (arith, within)
    at m false false false false true is_low is_high =
        let within = leb-true m 300 is_high in omega (arith, within)
    at m false false false false false is_low is_high = omega arith

pub destination_within : (target : ℕ) → EndsWithin (destination_of target)
unfolding destination_of
destination_within target =
    at (target % 1000) _ _ _ (leb (target % 1000) 300) _ refl
  where
    at : (n : ℕ) (squeeze emerald bridge place message : Bool) → leb n 300 ≡ place
        → EndsWithin (cond squeeze (Special Squeeze) (cond emerald PutsEmeraldDown
        (cond bridge (Special Bridge) (cond place (Place n)
        (cond message (Message (n - 500)) NoWay)))))
    at n true emerald bridge place message is_place = tt
    at n false true bridge place message is_place = tt
    at n false false true place message is_place = tt
    at n false false false true message is_place = leb-true n 300 is_place
    at n false false false false true is_place = tt
    at n false false false false false is_place = tt
