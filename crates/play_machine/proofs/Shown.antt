-- Which lines of a log are shown.
use Rattle.std.proofs.Common.{◌≡◌, ℕ, Bool, true, false, cond, not, ◌||◌, List, Option, Some, None}
use Rattle.std.proofs.Common.{refl}
use Rattle.base_lines.specs.Bytes.{is_all_blank}
use Rattle.base_lines.specs.LogLine.{is_comment, is_skipped, log_line, seed_of, seed_or_input}
use Rattle.base_lines.specs.declared.log_line.LogLine.TheVariants.{Comment, Blank}
use Rattle.play_machine.specs.Transcript.{is_shown}

shown : (comment blank : Bool) (seed : Option ℕ)
    → is_shown (cond comment Comment (cond blank Blank (seed_or_input seed)))
    ≡ not (comment || blank)
shown true blank seed = refl
shown false true seed = refl
shown false false None = refl
shown false false (Some seed) = refl

-- scripts pass over the lines that aren't shown
pub shown_unless_skipped : (line : List ℕ) → is_shown (log_line line) ≡ not (is_skipped line)
unfolding log_line is_skipped
shown_unless_skipped line = shown (is_comment line) (is_all_blank line) (seed_of line)
