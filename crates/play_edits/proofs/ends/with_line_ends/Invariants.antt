-- the remaining lines with their ends, after those that are written, make the whole text
use Rattle.std.proofs.Common.{◌≡◌, ◌++◌, ◌∷◌, length}
use Rattle.std.specs.Str.Lines.{lines}
use Rattle.play_edits.specs.Ends.{with_line_ends}
use Rattle.play_edits.proofs.ends.with_line_ends.Given as goal

abbrev pub invariant-loop-next : goal.invariant-loop-next
invariant-loop-next l =
    l.ended.items ++ with_line_ends l.usual l.unended l.ends (l.line ∷ lines l.rest)
    ≡ with_line_ends l.usual l.unended l.initial.ends (lines l.text)

abbrev pub decreases-loop-next : goal.decreases-loop-next
decreases-loop-next l = length l.rest
