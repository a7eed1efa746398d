-- The draws so far and the remaining ones are all draws.
use Rattle.std.proofs.Common.{◌≡◌, ℕ, suc, ◌+◌, ◌-◌, ◌<◌, ◌≤◌, true, false, refl, arith}
use Rattle.std.specs.Prelude.{◌==◌}
use Rattle.cave_words.specs.Stream.{next}
use Rattle.play_tables.specs.Draws.{draws_within, draws_between}

-- this many draws were made, and together with those from a number of the stream on they are all
unfoldable pub draws_from : ℕ → ℕ → ℕ → ℕ
draws_from drawn at to = drawn + draws_within (1048576 - drawn) at to

pub draws_all : (from to : ℕ) → draws_from 0 from to ≡ draws_between from to
unfolding draws_from draws_between
draws_all from to = omega arith

no_draw : (most at to : ℕ) → at == to ≡ true → draws_within (suc most) at to ≡ 0
unfolding draws_within
no_draw most at to same = rw same refl

some_draw : (most at to : ℕ) → at == to ≡ false
    → draws_within (suc most) at to ≡ suc (draws_within most (next at) to)
unfolding draws_within
some_draw most at to other = rw other refl

no_more : (at to : ℕ) → draws_within 0 at to ≡ 0
unfolding draws_within
no_more at to = refl

-- if the two are the same number, no draw is made
pub draws_end : (drawn at to : ℕ) → drawn < 1048576 → at == to ≡ true
    → draws_from drawn at to ≡ drawn
unfolding draws_from
draws_end drawn at to less same =
    let more : 1048576 - drawn ≡ suc (1048576 - (drawn + 1)) = omega arith in
    let none = no_draw (1048576 - (drawn + 1)) at to same in
    rw (more, none) (omega arith)

pub draws_next : (drawn at to : ℕ) → drawn < 1048576 → at == to ≡ false
    → draws_from drawn at to ≡ draws_from (drawn + 1) (next at) to
unfolding draws_from
draws_next drawn at to less other =
    let more : 1048576 - drawn ≡ suc (1048576 - (drawn + 1)) = omega arith in
    let one = some_draw (1048576 - (drawn + 1)) at to other in
    rw (more, one) (omega arith)

pub draws_none : (drawn at to : ℕ) → 1048576 ≤ drawn → draws_from drawn at to ≡ drawn
unfolding draws_from
draws_none drawn at to all =
    let none : 1048576 - drawn ≡ 0 = omega arith in rw (none, no_more at to) (omega arith)

pub ruleset drawing = (draws_all, draws_end, draws_next, draws_none)
