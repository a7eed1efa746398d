use Rattle.std.proofs.Common.{◌+◌, ◌≤◌, length}
use Rattle.std.specs.Str.Lines.{lines}
use Rattle.base_text.specs.Text.{TellsUpTo}
use Rattle.check_tables.specs.Known.{unmet_lines}
use Rattle.check_tables.proofs.known.put_unmet_lines.Given as goal

-- the lines so far, with those of the rest, are all lines; each line that was counted took at least
-- one byte
abbrev pub invariant-loop-line : goal.invariant-loop-line
invariant-loop-line l =
    TellsUpTo (unmet_lines l.file l.words l.entries (l.number + 1) (lines l.rest))
    (unmet_lines l.file l.words l.entries 1 (lines l.list)) l.initial.text l.text
    × (l.number + length l.rest ≤ length l.list)

abbrev pub decreases-loop-line : goal.decreases-loop-line
decreases-loop-line l = length l.rest
