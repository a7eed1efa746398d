use Rattle.std.proofs.Common.{◌≡◌, arith}
use Rattle.std.proofs.lemmas.List.Elements.{All-nil}
use Rattle.replay_edits.proofs.OutcomeLemmas.{numbered_start, numbered_more, numbered_end}
use Rattle.replay_edits.proofs.OutcomeLemmas.{below_more, below_all}
use Rattle.replay_edits.proofs.stock.Stock.numbers.Goals as goal

pub loop-number-init : goal.loop-number-init
loop-number-init c =
    rw c.in_ok-numbers.ensures
    (record { lines = numbered_start c.args.self.now; below = All-nil _ })

pub loop-number-preserved : goal.loop-number-preserved
loop-number-preserved c =
    let so_far = c.loop-number.invariant in
    rw c.in_ok-push.ensures
    (record {
      lines =
          numbered_more c.args.self.now c.loop-number.numbers c.loop-number.number
          (record { ordered = c.requires.ordered; within = c.requires.within })
          (omega arith) (omega arith) so_far.lines;
      below = below_more c.loop-number.numbers c.loop-number.number so_far.below;
    })

pub returns-clause-log : goal.returns-clause-log
returns-clause-log c =
    let end : c.loop-number.number ≡ c.args.self.now.rest = omega arith in
    numbered_end c.args.self.now c.loop-number.numbers
    (record { ordered = c.requires.ordered; within = c.requires.within })
    (rw end at c.loop-number.invariant.lines)

pub returns-clause-numbers : goal.returns-clause-numbers
returns-clause-numbers c =
    below_all c.args.self.now c.loop-number.numbers c.loop-number.number
    c.loop-number.invariant.below (omega arith)
