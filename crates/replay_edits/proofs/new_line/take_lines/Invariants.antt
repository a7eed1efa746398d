use Rattle.std.proofs.Common.{◌≡◌, ◌+◌, ◌≤◌, length, drop}
use Rattle.std.specs.Prelude.{vec_len, vec_capacity}
use Rattle.replay_edits.specs.Edit.{log_of}
use Rattle.replay_edits.proofs.NewLineLemmas.{IsTaking}
use Rattle.replay_edits.proofs.new_line.take_lines.Given as goal

abbrev pub invariant-loop-line : goal.invariant-loop-line
invariant-loop-line l = record {
  taking : IsTaking l.head l.rest (log_of l.fn.log.items) l.fn.lines (log_of l.log.items)
      (drop l.line-index l.lines) (log_of l.taken.items);
  len : length l.log.items ≡ length l.fn.log.items;
  stretch : l.log.stretch ≡ l.fn.log.stretch;
  room : vec_len l.taken + length (drop l.line-index l.lines) ≤ vec_capacity l.taken;
}
