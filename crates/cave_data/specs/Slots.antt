-- Tables with a slot for each number: what is at a number, and the finite map that such a table is.
use Rattle.std.specs.Prelude.{◌≡◌, ◌≢◌, ℕ, suc, List, [], ◌∷◌, Option, Some, None, option_and_then}
use Rattle.std.specs.Prelude.{slice_get}
use Rattle.std.specs.Ordering.{nat_cmp}
use Rattle.std.specs.FinMap as map

-- what a slot shows, if the table is that long
abbrev pub slot : {X : Type 0} → List (Option X) → ℕ → Option X
slot xs n = option_and_then (λ x. x) (slice_get xs n)

-- the numbers whose slots are filled, from the number of the first slot on
abbrev pub numbered_items : {X Y : Type 0} → (X → Y) → ℕ → List (Option X) → List (ℕ × Y)
numbered_items view n [] = []
numbered_items view n (None ∷ xs) = numbered_items view (suc n) xs
numbered_items view n (Some x ∷ xs) = (n, view x) ∷ numbered_items view (suc n) xs

-- the map from a number to what its slot shows
unfoldable pub by_number : {X Y : Type 0} → (X → Y) → List (Option X) → map.FinMap nat_cmp Y
by_number view xs = map.from_entries (numbered_items view 0 xs)

-- each slot shows what it showed before
abbrev pub SameSlots : {X : Type 0} → List (Option X) → List (Option X) → Type 0
SameSlots old new = (n : ℕ) → slot new n ≡ slot old n

-- the slot of the number shows this now, and every other shows what it showed
pub record ChangesSlot {X : Type 0} (old new : List (Option X)) (number : ℕ)
    (shows : Option X) : Type 0 where
  pub changed : slot new number ≡ shows
  pub others : (n : ℕ) → n ≢ number → slot new n ≡ slot old n
