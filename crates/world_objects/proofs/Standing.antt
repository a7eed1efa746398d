-- Everything at a place is a half of an object, and nothing is at place 0.
use Rattle.std.proofs.Common.{◌≡◌, ℕ, ◌<◌, ◌==◌, List, [], ◌∷◌, refl, arith}
use Rattle.std.specs.List.{All}
use Rattle.std.proofs.lemmas.List.Elements.{All-nil, All-cons, All-filter, All-map}
use Rattle.world_objects.specs.declared.object.Half.{Half}
use Rattle.world_objects.specs.declared.lists.PlacedHalf.{PlacedHalf}
use Rattle.world_objects.specs.Lists.{object_of, halves_at, AreLists}
use Rattle.world_objects.proofs.SameLists.{no_halves}

abbrev IsOfObject : Half → Type 0
IsOfObject half = 0 < object_of half

all_entries : (es : List PlacedHalf) → AreLists es → All (λ (e : PlacedHalf). IsOfObject e.half) es
all_entries [] l = All-nil (λ (e : PlacedHalf). IsOfObject e.half)
all_entries (e ∷ es) l =
    All-cons (λ (f : PlacedHalf). IsOfObject f.half) e es l.0.0 (all_entries es l.1.1.1.1)

pub all_objects : (place : ℕ) (es : List PlacedHalf) → AreLists es
    → All (λ half. 0 < object_of half) (halves_at place es)
all_objects place es l =
    All-map IsOfObject (λ (e : PlacedHalf). e.half)
    _ (All-filter (λ (e : PlacedHalf). e.place == place) (λ (e : PlacedHalf). IsOfObject e.half) es
    (all_entries es l))

pub none_nowhere : (es : List PlacedHalf) → AreLists es → halves_at 0 es ≡ []
none_nowhere [] l = refl
none_nowhere (e ∷ es) l = no_halves e.place 0 (e ∷ es) l.0.1 (omega arith, l.1.1.1.0)
