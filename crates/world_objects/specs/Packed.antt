-- Spots and anchors as numbers: two of these are for what is at no place, and each further one is
-- for a place.
use Rattle.std.specs.Prelude.{◌≡◌, ◌≢◌, ℕ, zero, suc, ◌+◌, ◌≤◌, refl}
use Rattle.world_objects.specs.declared.spot.Spot.{Spot}
use Rattle.world_objects.specs.declared.spot.Anchor.{Anchor}
use Rattle.base_lines.specs.Numbers.{LAST_PLACE}

abbrev pub code_of_spot : Spot → ℕ
code_of_spot Spot.Away = 0
code_of_spot Spot.InHands = 1
code_of_spot (Spot.At place) = suc (suc place)

abbrev pub spot_of_code : ℕ → Spot
spot_of_code zero = Spot.Away
spot_of_code (suc zero) = Spot.InHands
spot_of_code (suc (suc place)) = Spot.At place

abbrev pub code_of_anchor : Anchor → ℕ
code_of_anchor Anchor.Loose = 0
code_of_anchor Anchor.Fixed = 1
code_of_anchor (Anchor.At place) = suc (suc place)

abbrev pub anchor_of_code : ℕ → Anchor
anchor_of_code zero = Anchor.Loose
anchor_of_code (suc zero) = Anchor.Fixed
anchor_of_code (suc (suc place)) = Anchor.At place

-- a code stands for a place where something can be, or for no place
abbrev pub IsCode : ℕ → Type 0
IsCode code = (code ≤ LAST_PLACE + 2) × (code ≢ 2)

pub spot_back : (code : ℕ) → code_of_spot (spot_of_code code) ≡ code
spot_back zero = refl
spot_back (suc zero) = refl
spot_back (suc (suc place)) = refl

pub anchor_back : (code : ℕ) → code_of_anchor (anchor_of_code code) ≡ code
anchor_back zero = refl
anchor_back (suc zero) = refl
anchor_back (suc (suc place)) = refl

pub code_of_spot_back : (s : Spot) → spot_of_code (code_of_spot s) ≡ s
code_of_spot_back Spot.Away = refl
code_of_spot_back Spot.InHands = refl
code_of_spot_back (Spot.At place) = refl

pub code_of_anchor_back : (a : Anchor) → anchor_of_code (code_of_anchor a) ≡ a
code_of_anchor_back Anchor.Loose = refl
code_of_anchor_back Anchor.Fixed = refl
code_of_anchor_back (Anchor.At place) = refl
