-- Where the checkpoints of a log are, and how many of them there can be.
use Rattle.std.specs.Prelude.{◌≡◌, ℕ, ◌+◌, ◌*◌, ◌/◌, ◌<◌, ◌≤◌, List, length, slice_index}
use Rattle.std.specs.List.Sorted.{IsStrictlyIncreasing}

-- From `start` on the places ascend, and none is past n. Neighbours are at most K apart, and so are
-- the last one and n; two adjacent gaps together exceed K.
pub record IsSpacedFrom (start K : ℕ) (places : List ℕ) (n : ℕ) : Type 0 where
  pub some : 0 < length places
  pub first : slice_index places 0 ≡ start
  pub rising : IsStrictlyIncreasing places
  pub close : (i : ℕ) → i + 1 < length places
      → slice_index places (i + 1) ≤ slice_index places i + K
  pub apart : (i : ℕ) → i + 2 < length places
      → slice_index places i + K < slice_index places (i + 2)
  pub within : (i : ℕ) → i + 1 ≡ length places → slice_index places i ≤ n
  pub end : (i : ℕ) → i + 1 ≡ length places → n ≤ slice_index places i + K

-- places are spaced like this from the start of a log of n lines
abbrev pub IsSpaced : ℕ → List ℕ → ℕ → Type 0
IsSpaced K places n = IsSpacedFrom 0 K places n

-- the most places that spacing leaves room for over n lines, from the first place on
abbrev pub most_spaced : ℕ → ℕ → ℕ
most_spaced K n = 2 * (n / (K + 1)) + 2
