-- How many random numbers a line drew.
use Rattle.std.specs.Prelude.{ℕ, zero, suc, ◌==◌, if◌then◌else◌, List}
use Rattle.cave_words.specs.Stream.{next, STREAM_SIZE}
use Rattle.base_lines.specs.LogLine.{log_line}
use Rattle.base_lines.specs.declared.log_line.LogLine.{LogLine}

-- the fewest draws that lead from one number of the stream to another, if this many are enough
unfoldable pub draws_within : ℕ → ℕ → ℕ → ℕ
draws_within zero from to = 0
draws_within (suc most) from to =
    if from == to then 0 else suc (draws_within most (next from) to)

-- every number of the stream is drawn before it begins again
unfoldable pub draws_between : ℕ → ℕ → ℕ
draws_between from to = draws_within STREAM_SIZE from to

-- a seed line begins the stream again, and draws nothing
abbrev pub draws_by : LogLine → ℕ → ℕ → ℕ
draws_by (LogLine.Seed seed) from to = 0
draws_by LogLine.Comment from to = draws_between from to
draws_by LogLine.Blank from to = draws_between from to
draws_by LogLine.Input from to = draws_between from to

abbrev pub draws_at : List ℕ → ℕ → ℕ → ℕ
draws_at line from to = draws_by (log_line line) from to
