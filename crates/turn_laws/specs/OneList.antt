-- Each half of an object is in at most one list, as a game begins and after each change of objects.
use Rattle.std.specs.Prelude.{◌≡◌, ℕ, ℤ, ◌≤◌, Option, length}
use Rattle.turn_ends.specs.Begin.{starting_objects}
use Rattle.cave_data.specs.CaveView.{CaveView}
use Rattle.world_objects.specs.Lists.{halves_at}
use Rattle.world_objects.specs.Objects.{Layout, after_carry, after_juggle, is_listed, is_place}
use Rattle.world_objects.specs.Objects.{place_of_spot, spot_of, with_anchor, with_prop, with_spot}
use Rattle.world_objects.specs.declared.spot.Anchor.{Anchor}
use Rattle.world_objects.specs.declared.spot.Spot.{Spot}

-- the half with this number is in the list of just one place, or in none; a first half, which has
-- its object's number, is where the object says
pub record IsInOneList (o : Layout) (number : ℕ) : Type 0 where
  pub place : Option ℕ
  pub only : (p : ℕ) → is_listed number (halves_at p o.lists) ≡ is_place p place
  pub first : 1 ≤ number → number ≤ 100 → place ≡ place_of_spot (spot_of o number)

-- each half of a hundred objects is
pub record AreInOneList (o : Layout) : Type 0 where
  pub all : length o.first ≡ 100
  pub halves : (number : ℕ) → IsInOneList o number

-- each change of an object preserves this
pub record HalvesStay : Type 0 where
  pub spot : (o : Layout) (x : ℕ) (s : Spot) → AreInOneList o → AreInOneList (with_spot o x s)
  pub anchor :
      (o : Layout) (x : ℕ) (a : Anchor) → AreInOneList o → AreInOneList (with_anchor o x a)
  pub prop : (o : Layout) (x : ℕ) (v : ℤ) → AreInOneList o → AreInOneList (with_prop o x v)
  pub carry : (o : Layout) (x : ℕ) → AreInOneList o → AreInOneList (after_carry o x)
  pub juggle : (o : Layout) (x : ℕ) → AreInOneList o → AreInOneList (after_juggle o x)

-- this holds as a game begins
abbrev pub GamesBeginSo : Type 0
GamesBeginSo = (cave : CaveView) → AreInOneList (starting_objects cave)
