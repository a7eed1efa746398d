use Rattle.std.proofs.Common.{◌≡◌, ◌<◌, take, drop, ◌-◌, All}
use Rattle.replay_edits.specs.Edit.{log_of}
use Rattle.replay_edits.specs.Outcome.{lines_by}
use Rattle.replay_edits.proofs.stock.Stock.numbers.Given as goal

abbrev pub invariant-loop-number : goal.invariant-loop-number
invariant-loop-number l = record {
  lines : lines_by l.self l.numbers
      ≡ take (l.number - l.self.head) (drop l.self.head (log_of l.self.log.now.items));
  below : All (λ number. number < l.number) l.numbers;
}
