use Rattle.std.proofs.Common.{◌≡◌, ℕ, List, length, drop}
use Rattle.replay_edits.specs.Edit.{changes_of}
use Rattle.replay_edits.proofs.Groups.{IsReached}
use Rattle.replay_edits.proofs.plan.plan_edits.Given as goal

abbrev pub invariant-loop-number : goal.invariant-loop-number
invariant-loop-number l = (log : List (List ℕ)) → length log ≡ l.fn.lines
    → IsReached (changes_of l.edits) log (changes_of (drop l.number l.edits)) l.number l.after
    l.margins
