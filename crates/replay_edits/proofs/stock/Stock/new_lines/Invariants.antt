use Rattle.std.proofs.Common.{◌≡◌, ◌≤◌, take}
use Rattle.replay_edits.specs.Edit.{log_of}
use Rattle.replay_edits.specs.Outcome.{new_texts, lines_by, AreRising}
use Rattle.replay_edits.proofs.stock.Stock.new_lines.Given as goal

abbrev pub invariant-loop-number : goal.invariant-loop-number
invariant-loop-number l = record {
  lines : new_texts (log_of l.self.log.now.items) l.lines.items
      ≡ lines_by l.self (take l.number-index l.numbers);
  rising : AreRising l.self.head l.from l.lines.items;
  within : l.from ≤ l.self.rest;
}
