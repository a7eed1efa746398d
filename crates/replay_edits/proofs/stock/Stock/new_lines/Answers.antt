use Rattle.replay_edits.proofs.NewLineLemmas.{rising_further}
use Rattle.replay_edits.proofs.stock.Stock.new_lines.Goals as goal

pub returns-clause-rising : goal.returns-clause-rising
returns-clause-rising c =
    rising_further c.args.self.now.head c.loop-number.from c.args.self.now.rest
    c.loop-number.lines.items c.loop-number.invariant.rising c.loop-number.invariant.within
