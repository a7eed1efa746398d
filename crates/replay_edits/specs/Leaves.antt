-- Changes that leave the start and the end of a log alone.
use Rattle.std.specs.Prelude.{ℕ, ◌+◌, ◌≤◌, List, [], ◌∷◌, length}
use Rattle.replay_edits.specs.Edit.{Change, inserts, deletes, replaces, reseeds, log_after}
use Rattle.replay_edits.specs.declared.margins.Margins.{Margins}

-- a change leaves `head` lines at the start and `tail` lines at the end of a log of this many lines
-- alone
abbrev pub LeavesAlone : Change → ℕ → ℕ → ℕ → Type 0
LeavesAlone (inserts place line) lines head tail = (head ≤ place) × (place + tail ≤ lines)
LeavesAlone (deletes place) lines head tail = (head ≤ place) × (place + 1 + tail ≤ lines)
LeavesAlone (replaces place line) lines head tail = (head ≤ place) × (place + 1 + tail ≤ lines)
LeavesAlone (reseeds seed) lines head tail = head ≤ 0

-- so do several changes, each of the log that those before it left
abbrev pub LeaveAlone : List Change → List (List ℕ) → Margins → Type 0
LeaveAlone [] log margins = Unit {0}
LeaveAlone (change ∷ changes) log margins =
    LeavesAlone change (length log) margins.head margins.tail
    × LeaveAlone changes (log_after change log) margins
