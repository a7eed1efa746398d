use Rattle.std.proofs.Common.{◌≡◌, ◌+◌, ◌≤◌, [], length}
use Rattle.std.specs.Str.Lines.{lines}
use Rattle.replay_scripts.specs.Script.{read_from, script_of}
use Rattle.replay_scripts.specs.Views.{items_of, open_of}
use Rattle.replay_scripts.proofs.script.read_lines.Given as goal

-- the rest of the script gives, after what was read, what the whole script gives; each line that
-- was counted took at least one byte
abbrev pub invariant-loop-line : goal.invariant-loop-line
invariant-loop-line l =
    (script_of l.text
    ≡ read_from (l.number + 1) (lines l.rest) (items_of l.reader.items)
    (open_of l.reader.group) [])
    × (l.reader.guards.items ≡ [])
    × (l.number + length l.rest ≤ length l.text)

abbrev pub decreases-loop-line : goal.decreases-loop-line
decreases-loop-line l = length l.rest
