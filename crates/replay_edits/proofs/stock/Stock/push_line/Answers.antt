use Rattle.replay_edits.proofs.NewLineLemmas.{rising-old, rising-own}
use Rattle.replay_edits.proofs.stock.Stock.push_line.Goals as goal

pub returns-then-number-self-clause-rising : goal.returns-then-number-self-clause-rising
returns-then-number-self-clause-rising c =
    rw c.in_ok-push.ensures.items
    (rising-old c.args.self.now.head c.args.from c.args.number c.args.lines.now.items
    c.requires.rising c.if-from-number.true)

pub returns-clause-rising : goal.returns-clause-rising
returns-clause-rising c =
    rw c.in_ok-push-2.ensures.items
    (rising-own c.args.self.now.head c.args.from c.in_ok-line.line c.args.lines.now.items
    c.requires.rising)
