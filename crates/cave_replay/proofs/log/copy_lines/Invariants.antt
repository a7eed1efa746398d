use Rattle.std.proofs.Common.{◌≡◌, ◌+◌, ◌≤◌, ◌++◌, IfOk, length}
use Rattle.std.specs.Str.Lines.{lines}
use Rattle.replay_edits.specs.Edit.{log_of}
use Rattle.cave_replay.specs.Opening.{first_bad_line}
use Rattle.cave_replay.proofs.log.copy_lines.Given as goal

abbrev pub invariant-loop-found : goal.invariant-loop-found
invariant-loop-found l = record {
  copied : IfOk l.copies (λ copies. log_of copies.items ++ lines l.rest ≡ lines l.log);
  counted : l.count + length (lines l.rest) ≡ length (lines l.log);
  bad : first_bad_line (lines l.rest) (l.count + 1) ≡ first_bad_line (lines l.log) 1;
  fits : l.count + length l.rest ≤ length l.log;
}

abbrev pub decreases-loop-found : goal.decreases-loop-found
decreases-loop-found l = length l.rest
