-- What the target of a way says: under which condition the way is taken, and where it leads.
use Rattle.std.specs.Prelude.{ℕ, ◌-◌, ◌/◌, ◌%◌, ◌≤◌, Bool, false, ◌==◌, nat_lt, nat_le}
use Rattle.std.specs.Prelude.{if◌then◌else◌}
use Rattle.data_rows.specs.declared.targets.Condition.{Condition}
use Rattle.data_rows.specs.declared.targets.Condition.TheVariants.{Always, Chance, NotForDwarves}
use Rattle.data_rows.specs.declared.targets.Condition.TheVariants.{InHands, AtHand, OtherProp}
use Rattle.data_rows.specs.declared.targets.Destination.{Destination}
use Rattle.data_rows.specs.declared.targets.Destination.TheVariants.{Place, Special, NoWay, Message}
use Rattle.data_rows.specs.declared.targets.Destination.TheVariants.{PutsEmeraldDown}
use Rattle.data_rows.specs.declared.targets.Special.TheVariants.{Squeeze, Bridge}
use Rattle.base_lines.specs.Numbers.{LAST_PLACE, LAST_OBJECT}

-- the thousands of a target are its condition: none, a chance in percent, or that dwarves don't
-- take the way; then come the objects that must be in the hands, those that must be there or in the
-- hands, and, by the hundred, the props that an object must not have
unfoldable pub condition_of : ℕ → Condition
condition_of target =
    let m = target / 1000 in
    if m == 0 then Always
    else (if m == 100 then NotForDwarves
    else (if nat_lt m 100 then Chance m
    else (if nat_le m 200 then InHands (m - 100)
    else (if nat_le m 300 then AtHand (m - 200)
    else OtherProp (m % 100) (m / 100 - 3)))))

-- the rest of a target is its destination: a place up to 300, three ways that have their own rules,
-- and from 501 on a message
unfoldable pub destination_of : ℕ → Destination
destination_of target =
    let n = target % 1000 in
    if n == 301 then Special Squeeze
    else (if n == 302 then PutsEmeraldDown
    else (if n == 303 then Special Bridge
    else (if nat_le n 300 then Place n
    else (if nat_lt 500 n then Message (n - 500) else NoWay))))

-- the objects of a condition are possible numbers of objects
abbrev pub IsConditionWithin : Condition → Type 0
IsConditionWithin (InHands object) = object ≤ LAST_OBJECT
IsConditionWithin (AtHand object) = object ≤ LAST_OBJECT
IsConditionWithin (OtherProp object prop) = object ≤ LAST_OBJECT
IsConditionWithin _ = Unit {0}

-- the place of a destination is a possible number of a place
abbrev pub EndsWithin : Destination → Type 0
EndsWithin (Place place) = place ≤ LAST_PLACE
EndsWithin _ = Unit {0}

-- the destination is that place
abbrev pub leads_to_place : ℕ → Destination → Bool
leads_to_place place (Place number) = number == place
leads_to_place place _ = false
