-- The dwarves are dismissed one by one.
use Rattle.std.proofs.Common.{◌≡◌, ℕ, zero, suc, ◌<◌, List, [], ◌∷◌, ◌++◌, length, map, take, drop}
use Rattle.std.proofs.Common.{slice_index_or, slice_set, refl, ap, arith}
use Rattle.cave_world.specs.declared.dwarves.Dwarf.{Dwarf}
use Rattle.turn_clocks.specs.FirstClock.{dismissed_dwarf}

-- the dwarves, this many of which are gone
abbrev pub gone_up_to : ℕ → List Dwarf → List Dwarf
gone_up_to n dwarves = map dismissed_dwarf (take n dwarves) ++ drop n dwarves

next_is_gone : (dwarves : List Dwarf) (n : ℕ) (d : Dwarf) → n < length dwarves
    → let now = gone_up_to n dwarves in
    slice_set now n (dismissed_dwarf (slice_index_or now n d)) ≡ gone_up_to (suc n) dwarves
next_is_gone [] n d within = absurd (omega (arith, within))
next_is_gone (one ∷ dwarves) zero d within = refl
next_is_gone (one ∷ dwarves) (suc n) d within =
    ap (λ (l : List Dwarf). dismissed_dwarf one ∷ l) (next_is_gone dwarves n d (omega arith))

-- one more dwarf is gone
pub one_more_is_gone : (dwarves now : List Dwarf) (n m : ℕ) (d new : Dwarf)
    → now ≡ gone_up_to n dwarves → n < length dwarves → m ≡ suc n
    → new ≡ dismissed_dwarf (slice_index_or now n d) → slice_set now n new ≡ gone_up_to m dwarves
one_more_is_gone dwarves now n m d new so_far within next is =
    rw (next, is, so_far) (next_is_gone dwarves n d within)
