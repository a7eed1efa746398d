-- Where objects are, tests of them, and what changes them. Object 0 is no object: no test of it
-- holds, and nothing changes it.
use Rattle.std.specs.Prelude.{ℕ, ℤ, pos, ◌-◌, Bool, not, ◌==◌, ◌&&◌, ◌||◌, if◌then◌else◌, List, []}
use Rattle.std.specs.Prelude.{filter, slice_index_or, slice_set, replicate, true, false, Option}
use Rattle.std.specs.Prelude.{Some, None, ◌≡◌, ◌+◌, ◌<◌, length}
use Rattle.std.specs.List.{range_with_len, list_any}
use Rattle.world_objects.specs.declared.object.Half.TheVariants.{First, Second}
use Rattle.world_objects.specs.declared.spot.Spot.{Spot}
use Rattle.world_objects.specs.declared.spot.Anchor.{Anchor}
use Rattle.world_objects.specs.Lists.{after_relist, halves_at, half_number}
use Rattle.base_lines.specs.Numbers.{LAST_OBJECT}
use Rattle.world_objects.specs.declared.object.Half.{Half}
use Rattle.world_objects.specs.declared.lists.PlacedHalf.{PlacedHalf}

-- where something can be: at any place but 0
abbrev pub site_at : ℕ → Option ℕ
site_at place = if place == 0 then None else Some place

-- the spot at a place; place 0 is away
abbrev pub spot_at : ℕ → Spot
spot_at place = if place == 0 then Spot.Away else Spot.At place

-- the place where a first half is
abbrev pub place_of_spot : Spot → Option ℕ
place_of_spot Spot.Away = None
place_of_spot Spot.InHands = None
place_of_spot (Spot.At place) = Some place

abbrev pub is_spot_in_hands : Spot → Bool
is_spot_in_hands Spot.Away = false
is_spot_in_hands Spot.InHands = true
is_spot_in_hands (Spot.At place) = false

abbrev pub is_away_spot : Spot → Bool
is_away_spot Spot.Away = true
is_away_spot Spot.InHands = false
is_away_spot (Spot.At place) = false

-- the anchor of an object whose second half is at a place; at place 0 there is none
abbrev pub anchor_at : ℕ → Anchor
anchor_at place = if place == 0 then Anchor.Loose else Anchor.At place

-- the place where a second half is
abbrev pub place_of_anchor : Anchor → Option ℕ
place_of_anchor Anchor.Loose = None
place_of_anchor Anchor.Fixed = None
place_of_anchor (Anchor.At place) = Some place

-- there is a place, and it is the given one
abbrev pub is_place : ℕ → Option ℕ → Bool
is_place place None = false
is_place place (Some p) = p == place

-- object 1 is at index 0 of the first three lists
pub record Layout : Type 0 where
  pub first : List Spot
  pub second : List Anchor
  pub props : List ℤ
  pub lists : List PlacedHalf

-- the half with this number is in a list
unfoldable pub is_listed : ℕ → List Half → Bool
is_listed number halves = list_any (λ h. half_number h == number) halves

-- the lists and the objects agree: a half is in the list of a place exactly if its object says so
pub record IsLaid (l : Layout) : Type 0 where
  pub firsts : (x q : ℕ) → x < LAST_OBJECT
      → is_listed (1 + x) (halves_at q l.lists)
      ≡ is_place q (place_of_spot (slice_index_or l.first x Spot.Away))
  pub seconds : (x q : ℕ) → x < LAST_OBJECT
      → is_listed (101 + x) (halves_at q l.lists)
      ≡ is_place q (place_of_anchor (slice_index_or l.second x Anchor.Loose))
  pub all_first : length l.first ≡ LAST_OBJECT
  pub all_second : length l.second ≡ LAST_OBJECT

-- where the first half of an object is
unfoldable pub spot_of : Layout → ℕ → Spot
spot_of o x = if x == 0 then Spot.Away else slice_index_or o.first (x - 1) Spot.Away

-- what holds an object where it is
unfoldable pub anchor_of : Layout → ℕ → Anchor
anchor_of o x = if x == 0 then Anchor.Loose else slice_index_or o.second (x - 1) Anchor.Loose

unfoldable pub prop_of : Layout → ℕ → ℤ
prop_of o x = if x == 0 then pos 0 else slice_index_or o.props (x - 1) (pos 0)

unfoldable pub is_in_hands : Layout → ℕ → Bool
is_in_hands o x = is_spot_in_hands (spot_of o x)

-- its first half is nowhere; object 0 is not gone
unfoldable pub is_gone : Layout → ℕ → Bool
is_gone o x = not (x == 0) && is_away_spot (spot_of o x)

-- its first half is at the place
unfoldable pub is_first_at : Layout → ℕ → ℕ → Bool
is_first_at o place x = is_place place (place_of_spot (spot_of o x))

-- one of its halves is at the place
unfoldable pub is_object_at : Layout → ℕ → ℕ → Bool
is_object_at o place x = is_first_at o place x || is_place place (place_of_anchor (anchor_of o x))

-- it is in the hands, or its first half is at the place
unfoldable pub is_at_hand : Layout → ℕ → ℕ → Bool
is_at_hand o place x = is_in_hands o x || is_first_at o place x

-- those of the objects 1 to n that are in the hands
unfoldable pub in_hands_up_to : Layout → ℕ → List ℕ
in_hands_up_to o n = filter (is_in_hands o) (range_with_len 1 n)

abbrev pub objects_in_hands : Layout → List ℕ
objects_in_hands o = in_hands_up_to o LAST_OBJECT

-- the first half of an object moves to a spot
unfoldable pub with_spot : Layout → ℕ → Spot → Layout
with_spot o x s = if x == 0 then o
    else record o {
      first = slice_set o.first (x - 1) s;
      lists = after_relist (First x) (place_of_spot s) o.lists;
    }

-- another anchor for an object: its second half goes to the front of the anchor's place, or is in
-- no list
unfoldable pub with_anchor : Layout → ℕ → Anchor → Layout
with_anchor o x a = if x == 0 then o
    else record o {
      second = slice_set o.second (x - 1) a;
      lists = after_relist (Second x) (place_of_anchor a) o.lists;
    }

-- another prop for an object
unfoldable pub with_prop : Layout → ℕ → ℤ → Layout
with_prop o x v = if x == 0 then o else record o { props = slice_set o.props (x - 1) v }

-- the first half moves to the front of a place's list; place 0 is nowhere
unfoldable pub after_move_to : Layout → ℕ → ℕ → Layout
after_move_to o x place = with_spot o x (spot_at place)

-- the first half moves from its list into the hands, if it isn't there yet
unfoldable pub after_carry : Layout → ℕ → Layout
after_carry o x = if is_in_hands o x then o else with_spot o x Spot.InHands

-- both halves move to the front of their lists, if the object isn't in the hands
unfoldable pub after_juggle : Layout → ℕ → Layout
after_juggle o x = if is_in_hands o x then o else let once = with_spot o x (spot_of o x) in
    with_anchor once x (anchor_of once x)

-- objects, none of which is placed
unfoldable pub unplaced_objects : Layout
unplaced_objects =
    record {
      first = replicate LAST_OBJECT Spot.Away;
      second = replicate LAST_OBJECT Anchor.Loose;
      props = replicate LAST_OBJECT (pos 0);
      lists = [];
    }
