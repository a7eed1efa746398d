-- The halves of objects, and for each place the list of those that are there, latest first.
use Rattle.std.specs.Prelude.{◌≡◌, ℕ, ◌<◌, ◌≤◌, ◌==◌, Bool, not, nat_lt, if◌then◌else◌, List, []}
use Rattle.std.specs.Prelude.{◌∷◌, map, filter, Option, Some, None, ◌+◌, ◌-◌}
use Rattle.world_objects.specs.declared.object.Half.{Half}
use Rattle.world_objects.specs.declared.lists.PlacedHalf.{PlacedHalf}
use Rattle.world_objects.specs.declared.object.Half.TheVariants.{First, Second}
use Rattle.base_lines.specs.Numbers.{LAST_OBJECT}

-- the last number of a half: two for each object
abbrev pub last_half : ℕ
last_half = 200

-- the object that a half belongs to
abbrev pub object_of : Half → ℕ
object_of (First x) = x
object_of (Second x) = x

-- first halves have the numbers of their objects, and those of second halves come after them
abbrev pub half_number : Half → ℕ
half_number (First x) = x
half_number (Second x) = LAST_OBJECT + x

abbrev pub half_of : ℕ → Half
half_of number = if nat_lt LAST_OBJECT number then Second (number - LAST_OBJECT) else First number

abbrev pub no_half : Half
no_half = First 0

-- the entries are in the order of their places, and those of one place are its list
abbrev pub halves_at : ℕ → List PlacedHalf → List Half
halves_at place entries = map (λ e. e.half) (filter (λ e. e.place == place) entries)

-- the lists without the half with this number
unfoldable pub without : ℕ → List PlacedHalf → List PlacedHalf
without number entries = filter (λ e. not (half_number e.half == number)) entries

-- an entry put at the front of the list of its place
unfoldable pub put_first : PlacedHalf → List PlacedHalf → List PlacedHalf
put_first first [] = first ∷ []
put_first first (e ∷ es) = if nat_lt e.place first.place then e ∷ put_first first es
    else first ∷ e ∷ es

abbrev pub with_half : Half → Option ℕ → List PlacedHalf → List PlacedHalf
with_half half None lists = lists
with_half half (Some place) lists = put_first (record { place = place; half = half }) lists

-- a half moved from its list to the front of the list of the place, or to no list
unfoldable pub after_relist : Half → Option ℕ → List PlacedHalf → List PlacedHalf
after_relist half place lists = with_half half place (without (half_number half) lists)

unfoldable pub others : ℕ → List Half → List Half
others number halves = filter (λ h. not (half_number h == number)) halves

-- the list of a place after a half has moved to the front of the list of another place, or to no
-- list
unfoldable pub listed_at : ℕ → Half → Option ℕ → List Half → List Half
listed_at q half None halves = others (half_number half) halves
listed_at q half (Some place) halves =
    let rest = others (half_number half) halves in if place == q then half ∷ rest else rest

-- between the old lists and the new ones a half moved to the front of the list of a place, or to no
-- list, and nothing else changed
abbrev pub AreRelisted : List PlacedHalf → List PlacedHalf → Half → Option ℕ → Type 0
AreRelisted old new half place = (q : ℕ)
    → halves_at q new ≡ listed_at q half place (halves_at q old)

abbrev pub Lacks : ℕ → List PlacedHalf → Type 0
Lacks number [] = Unit {0}
Lacks number (e ∷ es) = (half_number e.half ≡ number → ⊥) × Lacks number es

-- no entry has a place before this one
abbrev pub StartsAt : ℕ → List PlacedHalf → Type 0
StartsAt place [] = Unit {0}
StartsAt place (e ∷ es) = (place ≤ e.place) × StartsAt place es

abbrev pub IsEntry : PlacedHalf → Type 0
IsEntry e = (0 < object_of e.half) × (0 < e.place)

-- each is an entry, no half is there twice, and places ascend
abbrev pub AreLists : List PlacedHalf → Type 0
AreLists [] = Unit {0}
AreLists (e ∷ es) =
    IsEntry e
    × ((half_number e.half ≤ last_half)
    × (Lacks (half_number e.half) es × (StartsAt e.place es × AreLists es)))

-- the half with this number is nowhere except at the place
abbrev pub IsOnlyAt : ℕ → Option ℕ → List PlacedHalf → Type 0
IsOnlyAt number from [] = Unit {0}
IsOnlyAt number from (e ∷ es) = (half_number e.half ≡ number → from ≡ Some e.place)
    × IsOnlyAt number from es

abbrev pub IsNew : Half → List PlacedHalf → Type 0
IsNew half es =
    (0 < object_of half) × ((half_number half ≤ last_half) × Lacks (half_number half) es)

abbrev pub has_half : ℕ → PlacedHalf → Bool
has_half number e = half_number e.half == number
