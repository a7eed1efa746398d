use Rattle.std.proofs.Common.{◌≡◌, ◌+◌, ◌≤◌, length}
use Rattle.std.specs.Str.Lines.{lines}
use Rattle.base_lines.specs.Limits.{MAX_LOG_LINES}
use Rattle.cave_replay.specs.Opening.{first_bad_line}
use Rattle.play_machine.proofs.WatchLemmas.{IsOnCourse}
use Rattle.play_machine.proofs.course.watch_log.Given as goal

abbrev pub invariant-loop-found : goal.invariant-loop-found
invariant-loop-found g l = record {
  counted : l.count + length (lines l.rest) ≡ length (lines l.log);
  bad : first_bad_line (lines l.rest) (l.count + 1) ≡ first_bad_line (lines l.log) 1;
  fits : l.count + length l.rest ≤ length l.log;
  played : l.count ≤ MAX_LOG_LINES
      → (l.course.place ≡ l.count) × IsOnCourse g.W.Watch.HasNoted g.W.Watch.first_facts
      g.W.Watch.facts l.rules.cave.now l.seed (lines l.log) l.fn.watch l.watch l.course.place
      l.course.turns l.course.state (lines l.rest);
}

abbrev pub decreases-loop-found : goal.decreases-loop-found
decreases-loop-found g l = length l.rest
