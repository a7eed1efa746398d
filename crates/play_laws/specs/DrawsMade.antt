-- Draws that are made one after another are counted, and the draws that are counted lead there.
use Rattle.std.specs.Prelude.{◌≡◌, ℕ, zero, suc, ◌<◌}
use Rattle.cave_words.specs.Stream.{next, STREAM_SIZE}
use Rattle.play_tables.specs.Draws.{draws_between}

-- the number of the stream after this many draws from a number of it
abbrev pub after_draws : ℕ → ℕ → ℕ
after_draws zero from = from
after_draws (suc made) from = after_draws made (next from)

-- the draws that were made are counted, if they are fewer than the numbers of the stream
abbrev pub DrawsAreCounted : Type 0
DrawsAreCounted = (made from : ℕ) → made < STREAM_SIZE
    → draws_between from (after_draws made from) ≡ made

-- as many draws as are counted lead from one number to the other, and they are fewer than the
-- numbers of the stream
pub record LeadsThere (from to : ℕ) : Type 0 where
  pub leads : after_draws (draws_between from to) from ≡ to
  pub few : draws_between from to < STREAM_SIZE

-- this is so of any two numbers of the stream
abbrev pub CountedDrawsLead : Type 0
CountedDrawsLead = (from to : ℕ) → from < STREAM_SIZE → to < STREAM_SIZE → LeadsThere from to
