-- Numbers that lie in chunks. No public clause cites this module.
use Rattle.std.specs.Prelude.{◌≡◌, ℕ, ◌+◌, ◌<◌, ◌≤◌, List, length, take, slice_index, slice_index_or}
use Rattle.std.specs.Prelude.{Result, MatchResult}
use Rattle.std.specs.List.{flat_map}
use Rattle.std.specs.Global.{Vec}

-- the numbers of all chunks, in order
abbrev pub numbers_in : List (Vec ℕ) → List ℕ
numbers_in chunks = flat_map (λ chunk. chunk.items) chunks

-- how many numbers the chunk of an index has
abbrev pub count_at : List (Vec ℕ) → ℕ → Vec ℕ → ℕ
count_at chunks index other = length (slice_index_or chunks index other).items

-- A place among all numbers is this far within the chunk of the index. The place of a number is
-- before the end of that chunk.
pub record IsWithinChunk (chunks : List (Vec ℕ)) (place index within : ℕ) : Type 0 where
  pub inside : index < length chunks
  pub place_is : length (numbers_in (take index chunks)) + within ≡ place
  pub fits : (other : Vec ℕ) → within ≤ count_at chunks index other
  pub below : (other : Vec ℕ) → place < length (numbers_in chunks)
      → within < count_at chunks index other

-- the number at a place, or how far the place is past the last of the numbers
abbrev pub IsSought : List ℕ → ℕ → Result ℕ ℕ → Type 0
IsSought numbers place result =
    MatchResult result (λ number. (place < length numbers) × (number ≡ slice_index numbers place))
    (λ past. past + length numbers ≡ place)
