-- The lists as they are kept: for each place the number of the first half there, and for each half
-- the number of the one after it. If there is none, the number is 0.
use Rattle.std.specs.Prelude.{◌≡◌, ℕ, zero, suc, ◌+◌, ◌-◌, ◌≤◌, ◌==◌, if◌then◌else◌, List, [], ◌∷◌}
use Rattle.std.specs.Prelude.{◌++◌, map, slice_index}
use Rattle.std.specs.List.{range_with_len}
use Rattle.world_objects.specs.declared.object.Half.{Half}
use Rattle.world_objects.specs.declared.lists.PlacedHalf.{PlacedHalf}
use Rattle.world_objects.specs.declared.lists.ObjectLists.TheInside.{Inside}
use Rattle.world_objects.specs.Lists.{object_of, half_number, half_of, last_half, AreLists}
use Rattle.base_lines.specs.Numbers.{LAST_PLACE, LAST_OBJECT}

-- the number of the first half at a place
unfoldable pub first_half : ℕ → List PlacedHalf → ℕ
first_half place [] = 0
first_half place (e ∷ es) = if e.place == place then half_number e.half else first_half place es

-- the number of the half after the one with this number, at the same place
unfoldable pub next_half : ℕ → List PlacedHalf → ℕ
next_half number [] = 0
next_half number (e ∷ es) =
    if half_number e.half == number then first_half e.place es else next_half number es

-- the values of a function at 1 to `most`
unfoldable pub table : (ℕ → ℕ) → ℕ → List ℕ
table f most = map f (range_with_len 1 most)

-- what a table has at a number
abbrev pub value_at : List ℕ → ℕ → ℕ
value_at numbers number = slice_index numbers (number - 1)

unfoldable pub links_of : List PlacedHalf → Inside
links_of es = record {
  first = table (λ place. first_half place es) LAST_PLACE;
  next = table (λ number. next_half number es) last_half;
}

-- the halves from a number on, at most this many, each of which leads to the next
unfoldable pub halves_along : (ℕ → ℕ) → ℕ → ℕ → List Half
halves_along next zero number = []
halves_along next (suc most) number =
    if number == 0 then [] else half_of number ∷ halves_along next most (next number)

-- the entries of this many places from one on, each of which has a list
unfoldable pub entries_of_places : (ℕ → List Half) → ℕ → ℕ → List PlacedHalf
entries_of_places lists place zero = []
entries_of_places lists place (suc more) =
    map (λ half. record { place = place; half = half }) (lists place)
    ++ entries_of_places lists (place + 1) more

-- the lists that links make up
unfoldable pub entries_of : Inside → List PlacedHalf
entries_of l =
    entries_of_places
    (λ place. halves_along (value_at l.next) last_half (value_at l.first place)) 1 LAST_PLACE

-- the number of each place and of each object is possible
abbrev pub AreEntriesWithin : List PlacedHalf → Type 0
AreEntriesWithin [] = Unit {0}
AreEntriesWithin (e ∷ es) =
    ((e.place ≤ LAST_PLACE) × (object_of e.half ≤ LAST_OBJECT)) × AreEntriesWithin es

-- the links make up lists, and nothing else is linked
pub record AreLinks (l : Inside) : Type 0 where
  pub lists : AreLists (entries_of l)
  pub within : AreEntriesWithin (entries_of l)
  pub exact : links_of (entries_of l) ≡ l
