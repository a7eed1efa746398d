-- Light, and places with a forced motion.
use Rattle.std.specs.Prelude.{ℕ, ℤ, pos, ◌/◌, ◌%◌, ◌^◌, Bool, false, ◌==◌, ◌&&◌, not, List, [], ◌∷◌}
use Rattle.std.specs.Ordering.{int_eq}
use Rattle.data_rows.specs.Rows.{Going}
use Rattle.cave_data.specs.CaveView.{CaveView, ways_from, cond_of}
use Rattle.cave_world.specs.Motions.{any_motion}
use Rattle.cave_world.specs.declared.state.State.{State}
use Rattle.world_objects.specs.Objects.{is_at_hand, prop_of}

-- the bit of the places that have light
abbrev pub LIGHT_BIT : ℕ
LIGHT_BIT = 0

-- a bit is set for a place
unfoldable pub has_condition : CaveView → ℕ → ℕ → Bool
has_condition cave place bit = cond_of cave place / 2 ^ bit % 2 == 1

-- the first motion of the first way out is the one that stands for any
abbrev pub starts_with_any : List ℕ → Bool
starts_with_any [] = false
starts_with_any (motion ∷ motions) = motion == any_motion

abbrev pub leads_on : List Going → Bool
leads_on [] = false
leads_on (way ∷ ways) = starts_with_any way.motions

-- the place has a forced motion, which moves the player on from it
unfoldable pub forced : CaveView → ℕ → Bool
forced cave place = leads_on (ways_from cave place)

-- the prop of a burning lamp
abbrev pub LAMP_ON : ℤ
LAMP_ON = pos 1

-- the place has no light, and no burning lamp is at hand
unfoldable pub dark : CaveView → ℕ → State → Bool
dark cave lamp s =
    not (has_condition cave s.trail.here LIGHT_BIT)
    && not (is_at_hand s.objects s.trail.here lamp && int_eq (prop_of s.objects lamp) LAMP_ON)
