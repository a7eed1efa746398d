-- What is kept if the items of a list replace others.
use Rattle.std.proofs.Common.{◌≡◌, ℕ, ◌+◌, ◌<◌, List, [], ◌∷◌, ◌++◌, map, length, get_or, take}
use Rattle.std.proofs.Common.{refl, ap, sym, ◌∙◌}
use Rattle.std.specs.List.{splice}
use Rattle.std.proofs.lemmas.List.{map-append, map_push, take-map, drop-map, map_more}

pub map-splice : {X Y : Type 0} (f : X → Y) (xs ms : List X) (from to : ℕ)
    → map f (splice xs from to ms) ≡ splice (map f xs) from to (map f ms)
map-splice f xs ms from to =
    simp (map-append, take-map, drop-map) refl

-- a copy of one more item
pub one_more : {X Y : Type 0} (f : X → Y) (xs ys : List X) (i : ℕ) (x y : X)
    → map f ys ≡ take i (map f xs) → i < length xs → x ≡ get_or xs i x → f y ≡ f x
    → map f (ys ++ y ∷ []) ≡ take (i + 1) (map f xs)
one_more f xs ys i x y so_far below here same =
    map_push f ys y
    ∙ rw (so_far, same, ap f here, take-map f i xs)
    (sym (take-map f (i + 1) xs ∙ map_more f xs i x below))
